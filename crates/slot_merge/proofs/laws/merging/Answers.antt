use Rattle.slot_merge.proofs.PartialLaws.{added_in_any_order}
use Rattle.slot_merge.proofs.MergeLaws.{merged_is_joined, merged_either_way}
use Rattle.slot_merge.proofs.MergeOrders.{merged_in_any_order}
use Rattle.slot_merge.proofs.laws.merging.Goals as goal

pub returns-clause-added : goal.returns-clause-added
returns-clause-added c = added_in_any_order

pub returns-clause-joined : goal.returns-clause-joined
returns-clause-joined c = merged_is_joined

pub returns-clause-either_way : goal.returns-clause-either_way
returns-clause-either_way c = merged_either_way

pub returns-clause-any_order : goal.returns-clause-any_order
returns-clause-any_order c = merged_in_any_order
