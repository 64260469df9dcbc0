-- What a pass over the fields adds. Only the search for holders speaks of it; what holds an object is `holders_of`.
use Rattle.std.specs.Prelude.{ℕ, List, [], ◌++◌, map}
use Rattle.ownership_model.specs.declared.leaks.Holder.{Holder}
use Rattle.ownership_model.specs.declared.leaks.Leak.{Leak}

-- the leaks, each with these holders more
abbrev pub with_holders : (ℕ → List Holder) → List Leak → List Leak
with_holders more ls = map (λ l. record { object = l.object; holders = l.holders ++ more l.object }) ls

-- the objects of a list, held by nothing so far
abbrev pub unheld : List ℕ → List Leak
unheld os = map (λ o. record { object = o; holders = [] }) os

-- the names of the leaked objects
abbrev pub leak_names : List Leak → List ℕ
leak_names ls = map (λ l. l.object) ls
