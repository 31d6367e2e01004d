-- Claims: each answer is fixed by the paper's.
pub mod Claims
