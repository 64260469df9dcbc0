use Rattle.std.proofs.Common.{◌≡◌, [], ◌∷◌, ◌++◌, string_bytes, sym, ap, ◌∙◌, subst, append_assoc, arith}
use Rattle.std.specs.List.Sorted.{IsStrictlySortedBy}
use Rattle.std.specs.Map.{keys_of}
use Rattle.std.specs.String.{string_cmp}
use Rattle.serde_json.specs.Data.{put}
use Rattle.serde_json.specs.View.{view, members_view}
use Rattle.serde_json.proofs.Views.{Entry, put_last}
use Rattle.trace_reader.specs.Looks.{Tells}
use Rattle.trace_reader.proofs.values.value_members.Goals as goal

pub loop-text-preserved : goal.loop-text-preserved
loop-text-preserved c =
    let l = c.loop-text in
    let done = l.invariant.0 in
    let e : Entry = (c.in-Some.text.now, c.in-Some.value.now) in
    let left = c.next.new.self in
    let all : c.args.members.now.entries ≡ done ++ e ∷ left = l.invariant.1 ∙ ap (λ es. done ++ es) c.in-Some.ensures.steps in
    let last = put_last done e left (subst (λ es. IsStrictlySortedBy string_cmp (keys_of es)) all c.iter-text-items.ensures.ordered) in
    let named : c.as_str.result.now ≡ string_bytes e.0 = grind arith in
    let same = ap (λ name. put name (view e.1) (members_view done)) named ∙ last in (
      done ++ e ∷ [],
      all ∙ sym (append_assoc done (e ∷ []) left),
      subst (Tells c.keep.new.kept) same (c.in_ok-keep.ensures (members_view done) l.invariant.2),
    )
