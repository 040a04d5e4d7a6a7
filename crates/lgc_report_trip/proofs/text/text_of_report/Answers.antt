-- What is written is read back.
use Rattle.std.proofs.Common.{Result, Ok, Err, sym, subst, arith}
use Rattle.std.specs.Prelude.{IfOk}
use Rattle.lgc_report.specs.Reports.{plain_report}
use Rattle.lgc_report_trip.specs.ReportReadBack.{IsReadAsReport}
use Rattle.lgc_report_trip.proofs.Shallow.{writable_shallow}
use Rattle.lgc_report_trip.proofs.ReportTexts.{report_read_back}
use Rattle.lgc_report_trip.proofs.text.text_of_report.Goals as goal

pub write_report-requires : goal.write_report-requires
write_report-requires g c = (omega arith, (omega arith, (c.requires.fits, writable_shallow c.args.m.now (plain_report c.args.r.now) c.requires)))

if_ok : {X E : Type 0} (P Q : X → Type 0) → ((x : X) → P x → Q x) → (r : Result X E) → IfOk r P → IfOk r Q
if_ok P Q gives (Ok x) h = gives x h
if_ok P Q gives (Err e) h = tt

pub returns-clause-read_back : goal.returns-clause-read_back
returns-clause-read_back g c =
    let read = report_read_back g.row.N c.args.m.now c.args.r.now c.names-names.ensures.logic c.names-names.ensures.size c.requires c.see_report.ensures in
    if_ok _ _ (λ text is. subst (λ bytes. IsReadAsReport g.row.N c.args.m.now bytes c.args.r.now) (sym is) read) c.write_report.result c.write_report.ensures
