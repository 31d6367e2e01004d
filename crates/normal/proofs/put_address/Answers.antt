use Rattle.normal.specs.Normal.{normal_text}
use Rattle.normal.proofs.put_address.Goals as goal

pub returns-in-V4 : goal.returns-in-V4
unfolding normal_text
returns-in-V4 c = rw c.in-V4.is c.put_dotted.ensures

pub returns-in-V6 : goal.returns-in-V6
unfolding normal_text
returns-in-V6 c =
    rw (c.in-V6.is, ← c.groups.ensures) c.put_eight.ensures
