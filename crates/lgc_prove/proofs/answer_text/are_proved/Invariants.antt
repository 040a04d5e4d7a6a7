-- Whether the claims that are left are proved.
use Rattle.std.proofs.Common.{◌≡◌, drop, map}
use Rattle.std.specs.List.{list_all}
use Rattle.lgc_report.specs.Reports.{plain_claim}
use Rattle.lgc_prove.specs.AnswerText.{is_proved}
use Rattle.lgc_prove.proofs.answer_text.are_proved.Given as goal

abbrev pub invariant-loop-claim : goal.invariant-loop-claim
invariant-loop-claim g l = list_all is_proved (map plain_claim l.claims) ≡ list_all is_proved (map plain_claim (drop l.claim-index l.claims))
