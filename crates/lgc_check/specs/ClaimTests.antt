-- Words of private calls: what a claim says, as tests.
use Rattle.std.specs.Prelude.{ℕ, not, Bool, true, List, [], ◌∷◌}
use Rattle.std.specs.List.{list_all, list_any}
use Rattle.lgc_meaning.specs.declared.query.Query.{Query}
use Rattle.lgc_goals.specs.Goals.{goals_of}
use Rattle.lgc_sequents.specs.Signed.{SignedFormula}
use Rattle.lgc_sequents.specs.Sequents.{is_included}
use Rattle.lgc_sequents.specs.Lines.{PlainLine, sequent_at}
use Rattle.lgc_steps.specs.StepTests.{is_position, all_zip}
use Rattle.lgc_report.specs.declared.report.Evidence.{Evidence}
use Rattle.lgc_report.specs.declared.report.Evidence.TheVariants.{Proved, Refuted, Unfinished}
use Rattle.lgc_report.specs.Reports.{PlainClaim, answer, holds}
use Rattle.lgc_check.specs.declared.verdict.Cause.{Cause}
use Rattle.lgc_check.specs.declared.verdict.Cause.TheVariants as cause
use Rattle.lgc_check.specs.Marks.{is_marked}

abbrev pub is_included_at : List PlainLine → ℕ → List SignedFormula → Bool
is_included_at lines position sequent = is_included (sequent_at lines position) sequent

-- by lines that are cited for the goals of a query
abbrev pub goal_tests : ℕ → List PlainLine → Query → List ℕ → List (Cause × Bool)
goal_tests n lines query cited =
    (cause.UnknownLine, list_all (is_position lines) cited)
    ∷ (cause.NotIncluded, all_zip (is_included_at lines) cited (goals_of n query))
    ∷ []

-- by a line that is cited for a sequent
abbrev pub holding_tests : List PlainLine → List SignedFormula → ℕ → List (Cause × Bool)
holding_tests lines sequent position =
    (cause.UnknownLine, is_position lines position)
    ∷ (cause.NotIncluded, is_included_at lines position sequent)
    ∷ []

-- ---- pending lines, by the marks of those that rest on one

abbrev pub is_settled_by : List Bool → Evidence → Bool
is_settled_by marks (Proved cited) = not (list_any (is_marked marks) cited)
is_settled_by marks (Refuted entries) = true
is_settled_by marks (Unfinished cited) = list_any (is_marked marks) cited

abbrev pub is_settled : List Bool → PlainClaim → Bool
is_settled marks (answer number query evidence) = is_settled_by marks evidence
is_settled marks (holds number sequent line) = not (is_marked marks line)
