-- InterfaceLaws: outcomes, from what the calls below answer. RoundTripLaws: what calls leave in the caller's buffers. BufferLaws: what is
-- asked of a lent buffer, of each kind of call. Claims: what is claimed of the interface.
pub mod InterfaceLaws
pub mod RoundTripLaws
pub mod BufferLaws
pub mod Claims
