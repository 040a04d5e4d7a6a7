-- What the program promises of a run and of the status that it ends with.
use Rattle.std.specs.Prelude.{◌≡◌, ◌⊎◌, ℕ, List, Some, true, false}
use Rattle.lgc_top.specs.declared.command.Format.{Format}
use Rattle.lgc_top.specs.declared.status.Status.{Status}
use Rattle.lgc_top.specs.declared.status.Status.TheVariants.{Done, Refuted, Rejected, Memory}
use Rattle.lgc_top.specs.Commands.{Command, Calculus, Verify, Prove, Check, Clauses, Tableaux, command_of}
use Rattle.lgc_top.specs.Run.{Run, Ends, PrintsCalculus, PrintsVerdicts, PrintsReport, PrintsVerdictOn, PrintsClauses, PrintsTableaux, IsSoundFor}
use Rattle.lgc_top.specs.Means.{IsFaultless, Means}

-- the words of a run are this command
abbrev pub Asks : Run → Command → Type 0
Asks run command = command_of run.words ≡ Some command

-- Each clause is one of the promises, and they are kept together.
pub record KeepsPromises (run : Run) (status : Status) : Type 0 where
  -- what the status says of the words and the files, and what then stands in the sinks
  pub ends : Ends run status
  -- With Done the output of `calculus` gained a calculus, each rule of which is exact and irredundant, as text or as a document for LaTeX.
  pub calculus : (format : Format) (file : List ℕ) → Asks run (Calculus format file) → status ≡ Done → PrintsCalculus run format file
  -- With Done or Rejected the output of `verify` gained the lines on the rules, all of which are right, or not all of them.
  pub right : (file rules : List ℕ) → Asks run (Verify file rules) → status ≡ Done → PrintsVerdicts run file rules true
  pub rejected : (file rules : List ℕ) → Asks run (Verify file rules) → status ≡ Rejected → PrintsVerdicts run file rules false
  -- With Done or Refuted the output of `prove` gained the text of a report that answers the queries: each claim is proved, by irredundant rules,
  -- exactly where every valuation satisfies its query, and else a valuation refutes it. With Done all are proved.
  pub proved : (file queries : List ℕ) → Asks run (Prove file queries) → status ≡ Done → PrintsReport run file queries true
  pub refuted : (file queries : List ℕ) → Asks run (Prove file queries) → status ≡ Refuted → PrintsReport run file queries false
  -- With Done or Rejected the output of `check` gained the verdict on a report: it is accepted exactly if it is valid, and else the first item
  -- that has a cause is told, with its first cause.
  pub accepted : (file report : List ℕ) → Asks run (Check file report) → status ≡ Done → PrintsVerdictOn run file report true
  pub invalid : (file report : List ℕ) → Asks run (Check file report) → status ≡ Rejected → PrintsVerdictOn run file report false
  -- What `check` accepts is sound: each line that doesn't rest on a pending one is true in all finite structures of the logic, whatever its free
  -- variables stand for, and so is each sequent that is claimed and each query that is called proved.
  pub sound : (file report : List ℕ) → Asks run (Check file report) → status ≡ Done → IsSoundFor run file report
  -- With Done the output of `clauses` gained the signed clauses of the queries: of each formula of each goal those that the rules give at the
  -- values outside its sign, without what is always true and what another one subsumes.
  pub clauses : (file queries : List ℕ) → Asks run (Clauses file queries) → status ≡ Done → PrintsClauses run file queries
  -- With Done or Refuted the output of `tableau` gained a closed tableau for each goal that every valuation makes true, and a valuation for each
  -- other one. With Done all are closed.
  pub closed : (file queries : List ℕ) → Asks run (Tableaux file queries) → status ≡ Done → PrintsTableaux run file queries true
  pub unclosed : (file queries : List ℕ) → Asks run (Tableaux file queries) → status ≡ Refuted → PrintsTableaux run file queries false
  -- Where the files are told, the status is the one that they mean, unless something fails or memory runs out: BadSpec for a fault of the
  -- specification, then BadInput for one of the second file, and else that of the work.
  pub complete : (meant : Status) → Means run meant → IsFaultless run → (status ≡ meant) ⊎ (status ≡ Memory)
