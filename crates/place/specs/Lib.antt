-- Place: where a strict text goes wrong, and what the strict reader answers.
pub mod Place
