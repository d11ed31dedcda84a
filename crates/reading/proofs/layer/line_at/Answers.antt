-- The line ends before a byte, counted.
use Rattle.std.proofs.Common.{◌+◌, take, ap, ◌∙◌, rules, tests}
use Rattle.std.proofs.lemmas.Iterator.{YieldsList-from_slice, YieldsList-from_take}
use Rattle.std.proofs.lemmas.Iterator.Consumers.{YieldsList-from_filter, count_from_yields_List}
use Rattle.std.proofs.lemmas.List.Sums.{length-filter}
use Rattle.reading.specs.Layer.{is_line_end}
use Rattle.reading.proofs.layer.line_at.Goals as goal

pub returns : goal.returns
returns c =
    let before = take c.args.byte c.args.text.now in
    ap (λ n. 1 + n) (count_from_yields_List c.filter.result c.count.result c.count.ensures.ran (YieldsList-from_filter _ is_line_end (YieldsList-from_take c.args.byte (YieldsList-from_slice c.args.text.now cc) cc) c.filter.ensures.closure (λ x b q k. search (rules, tests))) ∙ length-filter is_line_end before)
