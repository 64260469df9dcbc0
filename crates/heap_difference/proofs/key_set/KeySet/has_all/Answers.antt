use Rattle.std.proofs.Common.{◌≡◌, true}
use Rattle.std.specs.Prelude.{◌↔◌}
use Rattle.ownership_model.specs.declared.key.Key.TheVariants.{Handle, Cell, Object, Scope}
use Rattle.heap_difference.specs.declared.key_set.KeySet.{KeySet}
use Rattle.heap_difference.proofs.Tests.{clash}
use Rattle.heap_difference.proofs.KeyLemmas.{AreAll, all_of_kinds, tested_too, tested_no_more}
use Rattle.heap_difference.proofs.key_set.KeySet.has_all.Goals.{then-has_all, else-has_all, then-has_all-2, else-has_all-2}
use Rattle.heap_difference.proofs.key_set.KeySet.has_all.Goals as goal

pub returns-then-has_all-3 : goal.returns-then-has_all-3
returns-then-has_all-3 c =
    let d : KeySet = c.args.other.now in
    let e : KeySet = c.args.self.now in
    let Two : Type 0 = AreAll d.handles e.handles × AreAll d.cells e.cells in
    let two : (c.if-has_all.value ≡ true ↔ Two) = elim c.if-has_all.branch [
      | then-has_all w ↦ tested_too (AreAll d.handles e.handles) (AreAll d.cells e.cells) c.has_all.result w.has_all-then-has_all.result c.if-has_all.value c.has_all.ensures w.if-has_all.true w.has_all-then-has_all.ensures w.value-is
      | else-has_all w ↦ tested_no_more (AreAll d.handles e.handles) (AreAll d.cells e.cells) c.has_all.result c.if-has_all.value c.has_all.ensures w.if-has_all.false w.value-is
    ] in
    let three : (c.if-has_all-2.value ≡ true ↔ Two × AreAll d.objects e.objects) = elim c.if-has_all-2.branch [
      | then-has_all-2 w ↦ tested_too Two (AreAll d.objects e.objects) c.if-has_all.value w.has_all-then-has_all-2.result c.if-has_all-2.value two w.if-has_all-2.true w.has_all-then-has_all-2.ensures w.value-is
      | else-has_all-2 w ↦ tested_no_more Two (AreAll d.objects e.objects) c.if-has_all.value c.if-has_all-2.value two w.if-has_all-2.false w.value-is
    ] in
    let held : Two × AreAll d.objects e.objects = three.0 c.if-has_all-3.true in (
      λ t. all_of_kinds d e held.0.0 held.0.1 held.1 (c.has_all-then-has_all-3.ensures.0 t),
      λ all. c.has_all-then-has_all-3.ensures.1 (λ q. all (Scope q)),
    )

pub returns-else-has_all-3 : goal.returns-else-has_all-3
returns-else-has_all-3 c =
    let d : KeySet = c.args.other.now in
    let e : KeySet = c.args.self.now in
    let Two : Type 0 = AreAll d.handles e.handles × AreAll d.cells e.cells in
    let two : (c.if-has_all.value ≡ true ↔ Two) = elim c.if-has_all.branch [
      | then-has_all w ↦ tested_too (AreAll d.handles e.handles) (AreAll d.cells e.cells) c.has_all.result w.has_all-then-has_all.result c.if-has_all.value c.has_all.ensures w.if-has_all.true w.has_all-then-has_all.ensures w.value-is
      | else-has_all w ↦ tested_no_more (AreAll d.handles e.handles) (AreAll d.cells e.cells) c.has_all.result c.if-has_all.value c.has_all.ensures w.if-has_all.false w.value-is
    ] in
    let three : (c.if-has_all-2.value ≡ true ↔ Two × AreAll d.objects e.objects) = elim c.if-has_all-2.branch [
      | then-has_all-2 w ↦ tested_too Two (AreAll d.objects e.objects) c.if-has_all.value w.has_all-then-has_all-2.result c.if-has_all-2.value two w.if-has_all-2.true w.has_all-then-has_all-2.ensures w.value-is
      | else-has_all-2 w ↦ tested_no_more Two (AreAll d.objects e.objects) c.if-has_all.value c.if-has_all-2.value two w.if-has_all-2.false w.value-is
    ] in (
      λ t. absurd (clash c.if-has_all-2.value t c.if-has_all-3.false),
      λ all. three.1 ((λ q. all (Handle q), λ q. all (Cell q)), λ q. all (Object q)),
    )
