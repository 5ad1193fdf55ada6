-- Words of one slot, gathered in any order, come to the value that their order by keys gives.
--
-- The claims: words may be added in any order (`added_in_any_order`, in PartialLaws) and partials merged in any order
-- (`merged_in_any_order`, in MergeOrders, over MergeLaws); a partial with some bucket of words for each key has the
-- value of all buckets by ascending key (`has_value`, in FillLaws).
--
-- Below them: combining goes by parts (CombineLaws); what a further word changes in the words by ascending key
-- (OrderLaws); what exchanges of neighbours keep, any order of a list keeps (Permutations); a partial holds the first
-- word nearest in key, or the combination of all (`holding`, in PartialLaws); emissions under one key give each
-- slot its combined words (SlotLaws).
pub mod CombineLaws
pub mod FillLaws
pub mod MergeLaws
pub mod MergeOrders
pub mod OrderLaws
pub mod PartialLaws
pub mod Permutations
pub mod SlotLaws
