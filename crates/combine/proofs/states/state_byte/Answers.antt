-- `combine::states::state_byte` meets its contract: by the way of combining. Assumes nothing.
use lib.ListN.{length}
use Rattle.combine.proofs.StateBytes.{product-counted, sum-counted, byte_as}
use Rattle.combine.proofs.states.state_byte.Goals as goal

pub product_byte-requires : goal.product_byte-requires
product_byte-requires c =
    product-counted (length c.args.first.now) (length c.args.second.now) c.in-Intersection.is c.requires

pub sum_byte-requires : goal.sum_byte-requires
sum_byte-requires c =
    sum-counted (length c.args.first.now) (length c.args.second.now) c.in-Union.is c.requires

pub returns-in-Intersection : goal.returns-in-Intersection
returns-in-Intersection c =
    byte_as c.args.first.now c.args.second.now c.args.state c.in-Intersection.is c.product_byte.ensures

pub returns-in-Union : goal.returns-in-Union
returns-in-Union c =
    byte_as c.args.first.now c.args.second.now c.args.state c.in-Union.is c.sum_byte.ensures
