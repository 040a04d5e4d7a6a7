-- Orderings: names, and links between values.
use Rattle.std.specs.Prelude.{◌≡◌, ℕ, ◌+◌, List, [], ◌∷◌, map, zip, drop, filter_map, length, Option, Some, None, option_map, Result, Ok, Err, if◌then◌else◌}
use Rattle.std.specs.List.{flat_map}
use Rattle.lgc_orders.specs.Order.{Leads, IsAntisymmetric, IsFirstCycle}
use Rattle.lgc_parser.specs.declared.tree.Word.{Word}
use Rattle.lgc_parser.specs.declared.tree.Statement.{Statement}
use Rattle.lgc_parser.specs.declared.tree.Statement.TheVariants.{Ordering}
use Rattle.lgc_parser.specs.OrderGrammar.{Order}
use Rattle.lgc_spec.specs.declared.fault.SpecFault.{SpecFault}
use Rattle.lgc_spec.specs.declared.fault.TheConstants.{DUPLICATE_NAME, UNKNOWN_VALUE, CYCLE}
use Rattle.lgc_spec.specs.Faults.{fault_at, keeping, unless, Follows, Then}
use Rattle.lgc_spec.specs.InOrder.{InTurn}
use Rattle.lgc_spec.specs.Words.{text_of, is_among, unknown_word, names_of}
use Rattle.lgc_spec.specs.Values.{values_named}
use Rattle.lgc_spec.specs.Texts.{tokens_given, Parses}

-- an ordering: its name, and its links, each from a value to one above it
pub record Ordered : Type 0 where
  pub name : List ℕ
  pub links : List (ℕ × ℕ)

-- the name and the text of an ordering
abbrev pub ordering_in : Statement → Option (Word × Word)
ordering_in (Ordering name text) = Some (name, text)
ordering_in _ = None

-- a name that is one of those before it is a fault, at its token
abbrev pub name_again : List ℕ → List (List ℕ) → Word → Option SpecFault
name_again bytes earlier name = if is_among earlier (text_of bytes name) then Some (fault_at DUPLICATE_NAME name.at) else None

-- ---- the text of an ordering

-- each value of the left below each of the right
abbrev pub pairs_of : List ℕ → List ℕ → List (ℕ × ℕ)
pairs_of left right = flat_map (λ a. map (λ b. (a, b)) right) left

-- the links of a chain: those between each of its nodes, as sets of values, and the next one
abbrev pub chain_links : List ℕ → List (List ℕ) → List (List Word) → List (ℕ × ℕ)
chain_links text names chain =
    flat_map (λ nodes. pairs_of (values_named text names nodes.0) (values_named text names nodes.1)) (zip chain (drop 1 chain))

abbrev pub links_of : List ℕ → List (List ℕ) → List (List (List Word)) → List (ℕ × ℕ)
links_of text names chains = flat_map (chain_links text names) chains

-- the first word of the text that names no value, at its place in the file
abbrev pub unknown_in_text : ℕ → List ℕ → List (List ℕ) → List (List (List Word)) → Option SpecFault
unknown_in_text start text names chains = option_map (λ w. fault_at UNKNOWN_VALUE (start + w.at)) (unknown_word text names (flat_map (flat_map (λ node. node)) chains))

-- ---- the step of one ordering

-- The links give an order; or two values are each below the other, and the first such pair is a fault, at the text.
abbrev pub Orders : List (List ℕ) → List ℕ → ℕ → List (ℕ × ℕ) → Result Ordered SpecFault → Type 0
Orders names name at links (Ok ordered) =
    (ordered ≡ record { name = name; links = links }) × IsAntisymmetric (length names) (Leads links)
Orders names name at links (Err fault) =
    (a b : ℕ) × IsFirstCycle (length names) (Leads links) a b × (fault ≡ keeping CYCLE at (names_of names (a ∷ b ∷ [])))

-- what the chains of a text give
abbrev pub ChainsGive : List ℕ → List (List ℕ) → Word → Word → List (List (List Word)) → Result Ordered SpecFault → Type 0
ChainsGive bytes names name text chains =
    Follows (unless (unknown_in_text text.start (text_of bytes text) names chains) (Ok (links_of (text_of bytes text) names chains)))
    (Orders names (text_of bytes name) text.at)

-- what an ordering gives, behind those before it: its name, its tokens, its chains, their values and their order
abbrev pub OrderingGives : List ℕ → List (List ℕ) → List (Word × Word) → Word × Word → Result Ordered SpecFault → Type 0
OrderingGives bytes names before ordering =
    Follows (unless (name_again bytes (map (λ o. text_of bytes o.0) before) ordering.0) (tokens_given ordering.1.start (text_of bytes ordering.1)))
    (λ tokens. Then (Parses Order ordering.1.start (text_of bytes ordering.1) tokens)
    (ChainsGive bytes names ordering.0 ordering.1))

-- the orderings of a file
abbrev pub OrderingsGive : List ℕ → List (List ℕ) → List Statement → Result (List Ordered) SpecFault → Type 0
OrderingsGive bytes names statements = InTurn (OrderingGives bytes names) (filter_map ordering_in statements)
