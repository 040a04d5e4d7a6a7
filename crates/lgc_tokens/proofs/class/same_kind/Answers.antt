-- The tag of a kind is its place.
use Rattle.std.proofs.Common.{◌≡◌, ◌==◌, refl, ap, ◌∙◌}
use denote.Enum.Declared.{tag_of}
use Rattle.lgc_lexer.specs.contracts.token.Kind.{the_type}
use Rattle.lgc_lexer.specs.declared.token.Kind.{Kind}
use Rattle.lgc_lexer.specs.declared.token.Kind.TheVariants as kind
use Rattle.lgc_tokens.specs.Classes.{kind_place}
use Rattle.lgc_tokens.proofs.class.same_kind.Goals as goal

at_tag : (k : Kind) → tag_of the_type k ≡ kind_place k
at_tag kind.Lower = refl
at_tag k = refl

pub returns : goal.returns
returns c = c.eq.ensures ∙ ap (λ i. i == tag_of the_type c.args.other) (at_tag c.args.kind) ∙ ap (λ i. kind_place c.args.kind == i) (at_tag c.args.other)
