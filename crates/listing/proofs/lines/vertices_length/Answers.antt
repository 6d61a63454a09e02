-- `listing::lines::vertices_length` meets its contract: a space and the digits for each vertex.
-- Assumes nothing.
use Rattle.std.proofs.Common.{◌+◌, ◌≡◌, ◌∙◌, length, sum_by, rules, arith}
use Rattle.text.specs.Text.{decimal}
use Rattle.listing.proofs.Vertices.{vertices_counted}
use Rattle.listing.proofs.Lengths.{vertices_some}
use Rattle.listing.proofs.lines.vertices_length.Goals as goal

pub returns : goal.returns
returns c =
    let sum : c.sum.result ≡ sum_by (λ v. 1 + length (decimal v)) c.args.vertices.now = search rules in
    record {
      value = sum ∙ vertices_counted c.args.vertices.now;
      small = omega (arith, sum, vertices_counted c.args.vertices.now, vertices_some c.args.vertices.now);
    }
