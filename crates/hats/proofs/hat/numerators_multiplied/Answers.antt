-- At most four numerators of at most 2^8 each.
use Rattle.std.proofs.Common.{ap, ◌∙◌, rules}
use Rattle.std.specs.Iterator.Adapters.{zip_first}
use Rattle.std.specs.Slice.Iter.{iter_rest}
use Rattle.std.proofs.iter.Yields.{fronts}
use Rattle.std.proofs.lemmas.Iterator.{YieldsList-from_slice}
use Rattle.std.proofs.lemmas.Iterator.Adapters.{at_most_from_yields_List}
use Rattle.hats.proofs.Products.{zipped_product_fits}
use Rattle.hats.proofs.hat.numerators_multiplied.Goals as goal

pub product-requires-clause-fits : goal.product-requires-clause-fits
product-requires-clause-fits c =
    let source = ap (λ s. iter_rest (zip_first s)) c.map.ensures.source ∙ ap iter_rest c.zip.ensures.first ∙ c.iter.ensures.rest in
    zipped_product_fits fronts {s = c.map.result} _ _ (at_most_from_yields_List (YieldsList-from_slice c.args.point.now source) c.requires) c.map.ensures.closure (λ x r q k. search rules)
