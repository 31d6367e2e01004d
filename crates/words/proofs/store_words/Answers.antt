-- `words::store_words` meets its contract. Assumes nothing.
use Rattle.std.proofs.Common.{refl, ap}
use Rattle.address.specs.Answers.{refusal_number}
use Rattle.words.specs.Words.{refusal_words}
use Rattle.words.proofs.WordsLaws.{words_stored}
use Rattle.words.proofs.store_words.Goals as goal

pub returns-in-TextTooLong : goal.returns-in-TextTooLong
unfolding refusal_words
returns-in-TextTooLong c = words_stored _ _ 1 _ (ap refusal_number c.in-TextTooLong.is) refl c.store.ensures

pub returns-in-Malformed : goal.returns-in-Malformed
unfolding refusal_words
returns-in-Malformed c = words_stored _ _ 2 _ (ap refusal_number c.in-Malformed.is) refl c.store-in-Malformed.ensures

pub returns-in-NoRoom : goal.returns-in-NoRoom
unfolding refusal_words
returns-in-NoRoom c = words_stored _ _ 3 _ (ap refusal_number c.in-NoRoom.is) refl c.store-in-NoRoom.ensures

pub returns-in-LengthTooLarge : goal.returns-in-LengthTooLarge
unfolding refusal_words
returns-in-LengthTooLarge c = words_stored _ _ 4 _ (ap refusal_number c.in-LengthTooLarge.is) refl c.store-in-LengthTooLarge.ensures

pub returns-in-BitsBeyondLength : goal.returns-in-BitsBeyondLength
unfolding refusal_words
returns-in-BitsBeyondLength c = words_stored _ _ 5 _ (ap refusal_number c.in-BitsBeyondLength.is) refl c.store-in-BitsBeyondLength.ensures

pub returns-in-NoClass : goal.returns-in-NoClass
unfolding refusal_words
returns-in-NoClass c = words_stored _ _ 6 _ (ap refusal_number c.in-NoClass.is) refl c.store-in-NoClass.ensures

pub returns-in-HostTooLarge : goal.returns-in-HostTooLarge
unfolding refusal_words
returns-in-HostTooLarge c = words_stored _ _ 7 _ (ap refusal_number c.in-HostTooLarge.is) refl c.store-in-HostTooLarge.ensures

pub returns-in-FirstAboveLast : goal.returns-in-FirstAboveLast
unfolding refusal_words
returns-in-FirstAboveLast c = words_stored _ _ 8 _ (ap refusal_number c.in-FirstAboveLast.is) refl c.store-in-FirstAboveLast.ensures

pub returns-in-WrongFamily : goal.returns-in-WrongFamily
unfolding refusal_words
returns-in-WrongFamily c = words_stored _ _ 9 _ (ap refusal_number c.in-WrongFamily.is) refl c.store-in-WrongFamily.ensures

pub returns-in-TooMany : goal.returns-in-TooMany
unfolding refusal_words
returns-in-TooMany c = words_stored _ _ 10 _ (ap refusal_number c.in-TooMany.is) refl c.store-in-TooMany.ensures
