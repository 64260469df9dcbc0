-- How objects join those at which two heaps differ (for private functions alone).
use Rattle.std.specs.Prelude.{ℕ, ◌≡◌, List, ◌++◌, true, false}
use Rattle.std.specs.Ordering.{nat_cmp}
use Rattle.std.specs.BTreeSet.{BTreeSet, contains}
use Rattle.ownership_model.specs.declared.link.Link.TheVariants.{StrongOrWeak}
use Rattle.ownership_model.specs.State.{State}
use Rattle.ownership_model.specs.Reach.{has, field_names}
use Rattle.agreement.specs.Gathering.{AgreeAt}

-- the set has listed objects alone
abbrev pub AreListed : BTreeSet ℕ → List ℕ → Type 0
AreListed members xs = (q : ℕ) → contains nat_cmp members q ≡ true → has q xs ≡ true

-- the object is listed from now on, and all that was listed stays where it was
pub record IsListed (object : ℕ) (before after : List ℕ) : Type 0 where
  pub more : List ℕ
  pub grown : after ≡ before ++ more
  pub listed : has object after ≡ true

-- each of these names that is not listed is the same in both heaps, with both of its counts
abbrev pub AreCompared : (new old : State) → List ℕ → List ℕ → Type 0
AreCompared new old names xs = (o : ℕ) → has o names ≡ true → has o xs ≡ false → AgreeAt new old o

-- so it is of these names from now on, and all that was listed stays where it was
pub record Compares (new old : State) (names before after : List ℕ) : Type 0 where
  pub more : List ℕ
  pub grown : after ≡ before ++ more
  pub compared : AreCompared new old names after

-- the list has all of another one, and whatever fields of its members name in either heap is compared
pub record IsJoined (new old : State) (xs : List ℕ) (ys : List ℕ) : Type 0 where
  pub all : (q : ℕ) → has q xs ≡ true → has q ys ≡ true
  pub in_new : (p : ℕ) → has p ys ≡ true → AreCompared new old (field_names StrongOrWeak new p) ys
  pub in_old : (p : ℕ) → has p ys ≡ true → AreCompared new old (field_names StrongOrWeak old p) ys
