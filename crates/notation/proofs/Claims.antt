-- What is claimed of numbers as digits, of the pieces of a text, of what is read of each piece, and of bytes of ASCII. Assumes nothing.
use Rattle.std.specs.Prelude.{Option, Some, None}
use mathlib.Core.Path.{◌≡◌, refl}
use mathlib.Core.Logic.{◌⊎◌, ◌↔◌}
use mathlib.Core.Bool.{true}
use mathlib.Core.List.{List, [], ◌∷◌, ◌++◌, map}
use Prim.Native.Nat.{ℕ, ◌+◌, ◌*◌, ◌^◌, ◌≤◌, ◌<◌}
use lib.ListN.{length, take}
use Rattle.notation.specs.Ascii.{ascii, within}
use Rattle.notation.specs.BigEndian.{AllBelow, digits_of, number_of}
use Rattle.notation.specs.Pieces.{Lacks, Each, index_of, split_on, separated}
use Rattle.notation.specs.Options.{or_else, every}
use Rattle.notation.proofs.DigitLaws as digits
use Rattle.notation.proofs.PieceLaws as pieces
use Rattle.notation.proofs.SeparatedLaws as pieces_of
use Rattle.notation.proofs.EveryLaws as reads
use Rattle.notation.proofs.OptionLaws as options
use Rattle.notation.proofs.AsciiLaws as bytes

-- ---- numbers as digits

-- "Bytes are in network order everywhere": the first digit counts most, as many places up as digits follow it.
pub first_highest : (base d : ℕ) (ds : List ℕ) → number_of base (d ∷ ds) ≡ d * base ^ length ds + number_of base ds
first_highest = digits.number_cons

-- The n lowest digits of a number are n, and each is a digit of the base.
pub digits_count : (base n x : ℕ) → length (digits_of base n x) ≡ n
digits_count = digits.digits_length

pub digits_below : (base : ℕ) → 0 < base → (n x : ℕ) → AllBelow base (digits_of base n x)
digits_below = digits.digits_below

-- They write the number, where it has no more;
pub digits_write : (base : ℕ) → 0 < base → (n x : ℕ) → x < base ^ n → number_of base (digits_of base n x) ≡ x
digits_write = digits.digits_number

-- and digits are those of the number that they write, which is below the base to the power of their count.
pub digits_again : (base : ℕ) → 0 < base → (ds : List ℕ) → AllBelow base ds → digits_of base (length ds) (number_of base ds) ≡ ds
digits_again = digits.number_digits

pub number_below : (base : ℕ) (ds : List ℕ) → AllBelow base ds → number_of base ds < base ^ length ds
number_below = digits.number_lt

-- ---- pieces

module _ (b : ℕ) where
  -- The first b comes behind the bytes that are no b; where there is none, its index is the length.
  pub index_first : (s t : List ℕ) → Lacks b s → index_of b (s ++ b ∷ t) ≡ length s
  index_first = pieces_of.index_seam b

  pub index_none : (s : List ℕ) → Lacks b s → index_of b s ≡ length s
  index_none = pieces_of.index_none b

  -- The first piece of a text ends there.
  pub split_first : (t : List ℕ) → (ps : List (List ℕ)) × (split_on b t ≡ take (index_of b t) t ∷ ps)
  split_first = pieces.split_first b

  -- No piece holds a b, and the pieces with a b between them are the text;
  pub pieces_lack : (t : List ℕ) → Each (Lacks b) (split_on b t)
  pieces_lack = pieces_of.pieces_lack b

  pub pieces_joined : (t : List ℕ) → separated b (split_on b t) ≡ t
  pieces_joined = pieces_of.separated_split b

  -- and one or more texts that hold no b are the pieces of the text that they make with a b between them.
  pub joined_split : (ps : List (List ℕ)) → 0 < length ps → Each (Lacks b) ps → split_on b (separated b ps) ≡ ps
  joined_split = pieces_of.split_separated b

-- ---- what is read of each piece

-- All pieces are read as numbers exactly if each is read as its own number, in order.
pub every_exactly : (f : List ℕ → Option ℕ) (ps : List (List ℕ)) (xs : List ℕ) → (every f ps ≡ Some xs) ↔ (map f ps ≡ map Some xs)
every_exactly = reads.every_exactly

-- Of two readings the first is taken, and the second only where the first is not there.
pub or_else_exactly : {A : Type 0} (o u : Option A) (a : A) → (or_else o u ≡ Some a) ↔ ((o ≡ Some a) ⊎ (o ≡ None) × (u ≡ Some a))
or_else_exactly = options.or_else_exactly

-- ---- bytes of ASCII

-- A byte is within two others exactly if it is neither below the one nor above the other.
pub within_exactly : (a b c : ℕ) → (within a b c ≡ true) ↔ ((a ≤ c) × (c ≤ b))
within_exactly = bytes.within_exactly

-- A text in quotes, byte by byte: the ends of the digits and of the letters of hexadecimal, the separators and the mark.
pub ascii_bytes : ascii "09afAF.:/ xX" ≡ 48 ∷ 57 ∷ 97 ∷ 102 ∷ 65 ∷ 70 ∷ 46 ∷ 58 ∷ 47 ∷ 32 ∷ 120 ∷ 88 ∷ []
unfolding ascii
ascii_bytes = refl
