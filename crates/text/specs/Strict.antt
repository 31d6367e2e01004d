-- Strict text (01, "Strict text"; RFC 3986 section 3.2.2 and RFC 4291 section 2.2). A text is the list of its bytes. Assumes nothing.
use Rattle.std.specs.Prelude.{Bool, cond, ◌||◌, not, List, [], ◌∷◌, ℕ, ltb, eqb, length, Option, None, option_map}
use Rattle.notation.specs.Options.{or_else}
use Rattle.address.specs.declared.Address.{Address}
use Rattle.address.specs.declared.Address.TheVariants.{V4}
use Rattle.address.specs.Answers.{precedence, Answer, read_answer, no_address}
use Rattle.address_groups.specs.Groups.{groups_address}
use Rattle.ipv4_text.specs.Dotted.{dotted_of}
use Rattle.ipv6_text.specs.EightGroups.{eight_of}

-- the address of a strict text of family 4, of family 6, or else of either
unfoldable pub strict_of : ℕ → List ℕ → Option Address
unfolding dotted_of eight_of
strict_of family t =
    or_else (cond (eqb family 6) None (option_map V4 (dotted_of t))) (cond (eqb family 4) None (option_map groups_address (eight_of t)))

-- 4 and 6, and "Family 0 means either"
abbrev pub known_family : ℕ → Bool
known_family family = eqb family 4 || (eqb family 6 || eqb family 0)

-- what reading answers: "the family number asked for is not 4, 6 or 0", "the text is longer than 64 bytes", or the address
unfoldable pub strict_answer : ℕ → List ℕ → Answer Address
unfolding strict_of
strict_answer family t =
    read_answer precedence no_address
    ((9, not (known_family family)) ∷ (1, ltb 64 (length t)) ∷ [])
    (strict_of family t)
