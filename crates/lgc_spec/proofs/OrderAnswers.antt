-- From the text of an ordering to what it gives.
use Rattle.std.proofs.Common.{◌≡◌, ℕ, List, None, Result, Ok, Err, sym}
use Rattle.std.specs.List.{flat_map}
use Rattle.lgc_parser.specs.declared.tree.Word.{Word}
use Rattle.lgc_parser.specs.OrderGrammar.{Order}
use Rattle.lgc_spec.specs.declared.fault.SpecFault.{SpecFault}
use Rattle.lgc_spec.specs.declared.fault.SpecFault.TheVariants.{Fault, Memory}
use Rattle.lgc_spec.specs.Faults.{Follows, Then}
use Rattle.lgc_spec.specs.Words.{text_of, unknown_word}
use Rattle.lgc_spec.specs.Texts.{tokens_given, Parses}
use Rattle.lgc_spec.specs.Orderings.{Ordered, Orders, ChainsGive, links_of}
use Rattle.lgc_spec.specs.OrderTexts.{TextHas, TextGives, Reads}

follow_on : {A B C : Type 0} (r : Result A SpecFault) (P : A → Result B SpecFault → Type 0) (Q : B → Result C SpecFault → Type 0) (b : B) (told : Result C SpecFault) → Follows r P (Ok b) → Q b told → Follows r (λ a. Then (P a) Q) told
follow_on (Ok a) P Q b told p q = (Ok b, p, q)
follow_on (Err f) P Q b told p q = cc

pub text_told : (bytes : List ℕ) (names : List (List ℕ)) (name word : Word) (text : List ℕ) (chains items again : List (List (List Word))) (told : Result Ordered SpecFault) → text ≡ text_of bytes word → TextHas word.start text (Ok chains) → items ≡ chains → None ≡ unknown_word text names (flat_map (flat_map (λ node. node)) items) → again ≡ chains → Orders names (text_of bytes name) word.at (links_of text names again) told → TextGives bytes names name word told
text_told bytes names name word text chains items again told is has same none alike gives =
    let known : unknown_word (text_of bytes word) names (flat_map (flat_map (λ node. node)) chains) ≡ None = rw (← is, ← same) (sym none) in
    let orders : Orders names (text_of bytes name) word.at (links_of (text_of bytes word) names chains) told = rw (← is, ← alike) gives in
    let there : TextHas word.start (text_of bytes word) (Ok chains) = rw (← is) has in
    follow_on (tokens_given word.start (text_of bytes word)) (Parses Order word.start (text_of bytes word)) (ChainsGive bytes names name word) chains told there (rw known orders)

pub reads_fault : {X U Y V : Type 0} (K : X → Y → Type 0) (L : U → V → Type 0) (says : Result Y SpecFault → Type 0) (tells : Result V SpecFault → Type 0) (fault : SpecFault) → ((f : SpecFault) → says (Err f) → tells (Err f)) → Reads K says (Err fault) → Reads L tells (Err fault)
reads_fault K L says tells Memory more h = tt
reads_fault K L says tells (Fault number offset kept) more h = more (Fault number offset kept) h
