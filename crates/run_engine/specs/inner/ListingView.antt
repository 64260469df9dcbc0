-- What a listing is seen as.
use Rattle.std.specs.Prelude.{List, refl}
use Rattle.std.specs.Coded.{Coded, code_by, coded×, coded_list}
use Rattle.trace_types.specs.Operation.{Operation}
use Rattle.trace_types.specs.contracts.ops.Op as op

-- the operations of the original, and those that are listed
pub record ListingView : Type 0 where
  pub base : List Operation
  pub ops : List Operation

-- by which a proof tells listings apart
abbrev pub listing_code : Coded ListingView
listing_code =
    code_by (List Operation × List Operation) (coded× (coded_list op.the_row.coded) (coded_list op.the_row.coded)) (λ s. (s.base, s.ops)) (λ p. record { base = p.0; ops = p.1 }) (λ _. refl)
