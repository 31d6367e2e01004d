-- PassLaws: the lines of a sheet counted, and read into rows. PutLaws: rows put one after the other. FamilyLaws: sorted by number, the entries of
-- IPv4 and behind them those of IPv6 are sorted by address. CallLaws: the order that the sort finds, and the answers.
pub mod PassLaws
pub mod PutLaws
pub mod FamilyLaws
pub mod CallLaws
