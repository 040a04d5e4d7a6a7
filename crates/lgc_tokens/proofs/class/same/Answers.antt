-- The tag of a class is its place.
use Rattle.std.proofs.Common.{◌≡◌, ◌==◌, refl, ap, ◌∙◌}
use denote.Enum.Declared.{tag_of}
use Rattle.lgc_tokens.specs.contracts.class.Class.{the_type}
use Rattle.lgc_tokens.specs.declared.class.Class.{Class}
use Rattle.lgc_tokens.specs.declared.class.Class.TheVariants.{LogicWord}
use Rattle.lgc_tokens.specs.Classes.{place}
use Rattle.lgc_tokens.proofs.class.same.Goals as goal

at_tag : (c : Class) → tag_of the_type c ≡ place c
at_tag LogicWord = refl
at_tag c = refl

pub returns : goal.returns
returns c = c.eq.ensures ∙ ap (λ i. i == tag_of the_type c.args.other) (at_tag c.args.class) ∙ ap (λ i. place c.args.class == i) (at_tag c.args.other)
