-- `combine::write::section_keys` meets its contract: by the way of combining. Assumes nothing.
use Rattle.combine.proofs.Combining.{product_section, sum_section, product_collected, sum_collected}
use Rattle.combine.proofs.write.section_keys.Goals as goal

pub product-requires : goal.product-requires
product-requires c =
    let z = product_section c.in-Intersection.is c.requires in (z.0, z.1)

pub sum-requires : goal.sum-requires
sum-requires c =
    sum_section c.args.seconds c.args.symbols c.in-Union.is c.requires

pub returns-in-Intersection : goal.returns-in-Intersection
returns-in-Intersection c =
    product_collected c.args.width c.args.firsts c.args.seconds c.args.symbols c.args.first.now c.args.second.now _ _ _ c.in-Intersection.is c.requires c.product.ensures

pub returns-in-Union : goal.returns-in-Union
returns-in-Union c =
    sum_collected c.args.width c.args.firsts c.args.seconds c.args.first.now c.args.second.now _ _ _ c.in-Union.is c.sum.ensures
