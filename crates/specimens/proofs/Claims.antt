-- What is claimed of the specimens (01, "Specimens on both sides"): computed, by the definitions that the contracts cite. Assumes nothing.
use mathlib.Core.Path.{refl}
use Rattle.notation.specs.Ascii.{ascii}
use Rattle.address_groups.specs.Groups.{groups_of, groups_address}
use Rattle.digits.specs.Numerals.{group_of, numeral}
use Rattle.ipv4_text.specs.Dotted.{dotted_text}
use Rattle.text.specs.Strict.{strict_answer}
use Rattle.zero_runs.specs.Runs.{zeros_of}
use Rattle.normal.specs.Normal.{normal_text}
use Rattle.loose.specs.Loose.{loose_answer}
use Rattle.network.specs.NetworkText.{network_text}
use Rattle.network.specs.Network.{network_answer, network_leaves}
use Rattle.blocks.specs.BlockText.{block_text_answer}
use Rattle.ranges.specs.Ranges.{range_answer, range_leaves}
use Rattle.specimens.specs.Specimens.{AllCorrect, no_more, ◌also◌, specimens}

-- Every row of the table is correct.
pub all_correct : AllCorrect specimens
unfolding ascii group_of numeral groups_of groups_address dotted_text zeros_of strict_answer normal_text loose_answer network_answer network_leaves network_text block_text_answer range_answer range_leaves
all_correct =
    refl
    also refl
    also refl
    also refl
    also refl
    also refl
    also refl
    also refl
    also refl
    also refl
    also refl
    also refl
    also refl
    also refl
    also refl
    also no_more
