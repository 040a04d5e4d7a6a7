use Rattle.std.proofs.Common.{length}
use Rattle.lgc_spec.specs.Words.{LiesIn}
use Rattle.lgc_spec.proofs.FoundWords.{truth_words, designated_words}
use Rattle.lgc_spec.proofs.reading.values_given.Goals as goal

pub names_given-requires : goal.names_given-requires
names_given-requires c =
    truth_words (LiesIn (length c.args.bytes.now)) c.args.statements.now c.in-Some.at c.in-Some.values.now c.requires.words c.in-Some.ensures

pub designated_given-requires-clause-words : goal.designated_given-requires-clause-words
designated_given-requires-clause-words c =
    designated_words (LiesIn (length c.args.bytes.now)) c.args.statements.now c.in-Some-designated_values.designated.now c.requires.words c.in-Some-designated_values.ensures

pub designated_given-requires-clause-few : goal.designated_given-requires-clause-few
designated_given-requires-clause-few c = rw c.items.ensures c.in_ok-names.ensures.few
