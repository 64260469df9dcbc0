use Rattle.std.proofs.Common.{◌≡◌, ◌∙◌, ap, subst, inl, inr, refl, rules, ℕ}
use Rattle.std.specs.Prelude.{IsOk}
use Rattle.std.specs.Map.{keys_of}
use Rattle.lru.specs.LruCache.{LruCache}
use Rattle.mark_shelf.proofs.MarkLemmas.{keys-put, told, told-displaced, has_entry}
use Rattle.mark_shelf.proofs.marks.bring.Goals as goal

pub returns-clause-names : goal.returns-clause-names
returns-clause-names c = inl (
  ap (λ (m : LruCache ℕ (Unit {0})). keys_of m.entries) c.in-Ok.ensures.entries ∙ keys-put c.args.marks.now c.args.id c.len-count.ensures.valid,
  c.other_than.ensures ∙ ap (told c.args.id) c.in-Ok.ensures.old ∙ told-displaced c.args.marks.now c.args.id c.len-count.ensures.valid,
)

pub returns-in_default-clause-names : goal.returns-in_default-clause-names
returns-in_default-clause-names c =
    let stays : c.push.new.self ≡ c.args.marks.now = search rules in
    inr (λ there. absurd (let t = subst IsOk c.in_default.is (c.push.ensures.succeeds (has_entry c.args.id c.args.marks.now.entries there)) in cc), stays, refl)
