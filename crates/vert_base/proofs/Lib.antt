-- Orders that everything above builds on: messages by their names, elements by their keys, names in
-- a text.
--
-- The claims. A list of messages in the order of their names is a finite map: what each name has
-- settles the list (`same_law`, the contract of `same_letters`), a message that is put in is found
-- under its name and changes no other (`placed_law`), one that is taken out is gone, and no other
-- (`taken_law`), and both keep the order (`placed_ascends`, `without_ascends`). A text that spells
-- a name, whole or without its round, is read as that name and no other text is (`from_text`,
-- `from_roundless`); so is a number in decimal without leading zeros (`number_in`).
--
-- What carries them. Names are compared by their numbers in turn, kind and round first, and that
-- order is total: of two names one is before the other, or their numbers are the same and they are
-- one name (`total`, `along`, `apart`, in NameOrder; `names_law`, in LetterLaws). So in a list in
-- order a name before all others has nothing there (`none_behind`). In a text, the digits at the
-- front are those of the number that stands there, since no digit follows it (`same_cut`).
--
-- The chain. NameOrder: lists of numbers in the order of words. LetterLaws: the finite map. Orders:
-- buckets of a key, and the order by it; what filters, other orders and one element more do to them
-- (`bucket-in_order`, `part-two_orders`, `in_order_twice`), and that a stable sort by the key is
-- this order (`in_order_from_sort`, `buckets_from_stable`). TextLaws: where a number ends
-- (`same_number`), decimals (`spelled_value`, `value_of_decimal`), the word of a kind, and the
-- numbers behind the round (`from_behind`). Chains: the two parts of a test.
pub mod Chains
pub mod NameOrder
pub mod LetterLaws
pub mod TextLaws
pub mod Orders
