-- Rfc3986: the published grammar of strict text, with what each text means. StrictForm: the address of a text, by the family asked for.
-- PlaceForm: where such a text goes wrong.
-- NormalForm: of these texts the one that is written. LooseForm: the loose IPv4 form. NetworkForm: the network form, read and written.
-- BlockForm: the text of a block. Specimens: texts that are of no form.
pub mod Rfc3986
pub mod StrictForm
pub mod PlaceForm
pub mod NormalForm
pub mod LooseForm
pub mod NetworkForm
pub mod BlockForm
pub mod Specimens
