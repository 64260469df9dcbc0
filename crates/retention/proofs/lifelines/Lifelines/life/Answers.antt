use Rattle.std.proofs.Common.{ltb, leb, ◌≡◌, ◌∙◌, ap, sym, subst, List, take, true, false, rules}
use Rattle.std.specs.List.Sorted.{IsNonDecreasingBy, IsPartitionPoint}
use Rattle.std.proofs.lemmas.List.Sorted.{IsPartitionPoint-from_clause, IsPartitionedBy-leb, IsPartitionedBy-ltb, IsNonDecreasingBy-drop}
use Rattle.retention_model.specs.declared.mark.Marked.{Marked}
use Rattle.retention_model.specs.Turns.{marks_of}
use Rattle.retention.proofs.LifeLemmas.{life_found}
use Rattle.retention.proofs.lifelines.Lifelines.life.Goals as goal

pub returns : goal.returns
returns c =
    let o = c.args.object in
    let ms = c.as_slice-marks.result.now in
    let s = c.partition_point-start.result in
    let e = c.partition_point-end.result in
    let rest = c.split_at.result.1.now in
    let back = c.split_at.ensures.back in
    let rising : IsNonDecreasingBy (λ (x : Marked). x.object) ms =
    subst (λ (l : List Marked). IsNonDecreasingBy (λ (x : Marked). x.object) l) (sym c.as_slice-marks.ensures.value) c.args.self.now.rising in
    let first = IsPartitionPoint-from_clause (λ (x : Marked). ltb x.object o) ms s c.partition_point-start.ensures.partitioned
    (IsPartitionedBy-ltb (λ (x : Marked). x.object) ms o rising) (λ a r q k. search rules) in
    let later : IsNonDecreasingBy (λ (x : Marked). x.object) rest =
    subst (λ (l : List Marked). IsNonDecreasingBy (λ (x : Marked). x.object) l) (sym back) (IsNonDecreasingBy-drop (λ (x : Marked). x.object) s ms rising) in
    let second = IsPartitionPoint-from_clause (λ (x : Marked). leb x.object o) rest e c.partition_point-end.ensures.partitioned
    (IsPartitionedBy-leb (λ (x : Marked). x.object) rest o later) (λ a r q k. search rules) in
    let moved = subst (λ (l : List Marked). IsPartitionPoint (λ (y : Marked). leb y.object o ≡ true) (λ (y : Marked). leb y.object o ≡ false) l e) back second in
    c.split_at-2.ensures.front ∙ ap (take e) back ∙ life_found o ms s e first moved ∙ ap (marks_of o) c.as_slice-marks.ensures.value
