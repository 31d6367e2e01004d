-- What is told of a refused line. Assumes nothing.
use Rattle.std.specs.Prelude.{List, [], ◌∷◌, ◌++◌, ℕ, ◌+◌, length}
use Rattle.notation.specs.Ascii.{ascii}
use Rattle.digits.specs.Numerals.{numeral, decimal}
use Rattle.words.specs.Words.{words_text}

-- "FILE:LINE: refused N: WORDS", on a line, with the words that the library has; a number that is not of their table has none
unfoldable pub note_text : List ℕ → ℕ → ℕ → List ℕ
unfolding ascii
note_text name line n =
    name ++ (ascii ":" ++ (numeral 10 20 line ++ (ascii ": refused " ++ (decimal n ++ (ascii ": " ++ (words_text n ++ 10 ∷ []))))))

-- room for any note on a line of the file
abbrev pub note_room : List ℕ → ℕ
note_room name = length name + 91
