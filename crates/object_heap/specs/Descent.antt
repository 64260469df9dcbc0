-- Fields that name what ranks lower than their own object (for private functions alone).
use Rattle.std.specs.Prelude.{ℕ, ◌≡◌, ◌<◌, ◌≤◌, List, Some, unwrap_or, true, false}
use Rattle.std.specs.Ordering.{nat_cmp}
use Rattle.std.specs.FinMap.{FinMap, get}
use Rattle.trace_types.specs.declared.slots.Entry.{Entry}
use Rattle.ownership_model.specs.declared.link.Link.TheVariants.{StrongOrWeak}
use Rattle.ownership_model.specs.Reach.{has, entry_names}
use Rattle.object_heap.specs.declared.ranks.TheConstants.{MAX_RANK}

-- the rank of an object: the one that is kept for it, or else its number
abbrev pub rank_in : FinMap nat_cmp ℕ → ℕ → ℕ
rank_in ranks o = unwrap_or (get ranks o) o

-- no rank that is kept is above the limit
abbrev pub AreLow : FinMap nat_cmp ℕ → Type 0
AreLow ranks = (o r : ℕ) → get ranks o ≡ Some r → r ≤ MAX_RANK

-- what the slots name, from a rank on, ranks lower than this
abbrev pub NameLower : FinMap nat_cmp ℕ → ℕ → ℕ → List ℕ → Type 0
NameLower ranks from rank names = (o : ℕ) → has o names ≡ true → from ≤ rank_in ranks o → rank_in ranks o < rank

-- from a rank on each object is named by the fields of objects of higher ranks alone
abbrev pub Descend : FinMap nat_cmp ℕ → ℕ → FinMap nat_cmp Entry → Type 0
Descend ranks from objects = (p : ℕ) → NameLower ranks from (rank_in ranks p) (entry_names StrongOrWeak (get objects p))

pub record AreRanked (ranks : FinMap nat_cmp ℕ) (from : ℕ) (objects : FinMap nat_cmp Entry) : Type 0 where
  pub descend : Descend ranks from objects
  pub low : AreLow ranks

-- by some ranks this object is among those
pub record DescendTo (objects : FinMap nat_cmp Entry) (o : ℕ) : Type 0 where
  pub ranks : FinMap nat_cmp ℕ
  pub from : ℕ
  pub ranked : AreRanked ranks from objects
  pub above : from ≤ rank_in ranks o

-- no field names the object
abbrev pub IsUnnamed : FinMap nat_cmp Entry → ℕ → Type 0
IsUnnamed objects o = (p : ℕ) → has o (entry_names StrongOrWeak (get objects p)) ≡ false
