use Rattle.words.proofs.Spelled.{spelling_to_one_token}
use Rattle.words.proofs.ReadingLaw.{words_of_reads, reads_to_words_of}
use Rattle.words.proofs.AcceptedWords.{words_of_to_accepted}
use Rattle.words.proofs.law.reading_law_holds.Goals as goal

pub returns : goal.returns
returns c = record { result = words_of_reads; no_other = reads_to_words_of; accepted = words_of_to_accepted; one_token = spelling_to_one_token }
