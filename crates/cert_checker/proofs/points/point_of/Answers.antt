use Rattle.std.proofs.Common.{◌≡◌, length, rules, All, flat_map}
use Rattle.cert_checker.proofs.PointLaws.{point-made}
use Rattle.cert_checker.proofs.points.point_of.Goals as goal

pub returns-clause-rows : goal.returns-clause-rows
returns-clause-rows c =
    let p = c.args.program.now in
    let rows = c.args.point.now.rows in
    let widths : All (λ row. length row ≡ p.link.cols) rows =
    rw (c.cols-cols.ensures.cols, c.requires.width) at c.cols-cols.ensures.each_row in
    let are : c.in_ok-to_vec.field-0.items ≡ flat_map (λ row. row) rows = search rules in
    point-made p rows c.in_ok-to_vec.field-0.items c.new.result c.requires.bricks widths are c.requires.within
    c.new.ensures.made
    c.new.ensures.within
