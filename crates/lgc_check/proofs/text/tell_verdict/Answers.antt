-- The line tells the verdict of the check.
use Rattle.lgc_check.proofs.RowLaws.{accepted_by, sound_by}
use Rattle.lgc_check.proofs.text.tell_verdict.Goals as goal

pub returns : goal.returns
returns g c =
    let verdict = c.in_ok-verdict.verdict in
    record {
      verdict = verdict;
      is = c.in_ok-verdict.ensures.verdict;
      told = c.in_ok-line.ensures;
      valid = accepted_by c.is_accepted.result verdict c.is_accepted.ensures c.in_ok-verdict.ensures.accepted;
      sound = sound_by c.is_accepted.result verdict c.is_accepted.ensures c.in_ok-verdict.ensures.sound;
    }
