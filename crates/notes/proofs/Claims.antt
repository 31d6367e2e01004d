-- What is claimed of the note on a refused line. Assumes nothing.
use mathlib.Core.Path.{◌≡◌, refl}
use mathlib.Core.List.{List, [], ◌∷◌, ◌++◌}
use Prim.Native.Nat.{ℕ, ◌≤◌, ◌<◌}
use native.Mathlib.Omega.{arith}
use lib.ListN.{length, take}
use lib.Seq.{take_at}
use Rattle.notation.specs.Ascii.{ascii}
use Rattle.digits.specs.Numerals.{numeral}
use Rattle.words.specs.Words.{refusal_words, words_text}
use Rattle.notes.specs.Notes.{note_text, note_room}
use Rattle.notes.proofs.NoteLaws as laws

-- No note on a line of the file is longer than the room for one, whatever the line and the number.
pub note_most : (name : List ℕ) (line n : ℕ) → length (note_text name line n) ≤ note_room name
note_most = laws.note_most

-- A note tells which line of the file is refused, and by which number: two notes that are the same are of one line and one number. A line's
-- number is below 2^64, and a refusal's has at most three digits.
pub one_note : (name : List ℕ) (line line' n n' : ℕ) → line < 18446744073709551616 → line' < 18446744073709551616 → n < 1000 → n' < 1000
    → note_text name line n ≡ note_text name line' n' → (line ≡ line') × (n ≡ n')
one_note name line line' n n' h h' = laws.one_note name line line' n n' (omega arith) (omega arith)

-- It begins with the file's name, whatever that is, and ends with the words of its number, on a line.
pub note_begins : (name : List ℕ) (line n : ℕ) → take (length name) (note_text name line n) ≡ name
unfolding note_text
note_begins name line n = take_at name _ (length name) refl

pub note_ends : (name : List ℕ) (line n : ℕ) → (front : List ℕ) × (note_text name line n ≡ front ++ (ascii ": " ++ (words_text n ++ 10 ∷ [])))
note_ends = laws.note_ends

-- Examples: lines that are refused by 8 and by 9.
pub note_of_8 : note_text (ascii "rooms.txt") 12 8 ≡ ascii "rooms.txt:12: refused 8: the first address is above the last" ++ 10 ∷ []
unfolding note_text ascii numeral refusal_words
note_of_8 = refl

pub note_of_9 : note_text (ascii "strongrooms/40") 7 9 ≡ ascii "strongrooms/40:7: refused 9: the address family is unknown, mixed or not meant here" ++ 10 ∷ []
unfolding note_text ascii numeral refusal_words
note_of_9 = refl
