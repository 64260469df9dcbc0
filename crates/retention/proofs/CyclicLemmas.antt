-- An object leads to itself where one of its fields holds an object of its component.
use Rattle.std.proofs.Common.{◌≡◌, ◌<◌, inl, inr, ℕ, List, [], ◌∷◌, get_or, refl, subst, zero-le, Bool, true}
use Rattle.retention.specs.declared.graph.Graph.{Graph}
use Rattle.retention.specs.Graph.{size}
use Rattle.retention.specs.Walked.{Keeps}
use Rattle.retention.specs.Components.{AreTogether, AreParts}
use Rattle.retention.specs.Paths.{Points, Chain, marked, IsLeavingOrder, ArePartsFrom}
use Rattle.retention.proofs.PathLemmas.{path_trans, at_has}
use Rattle.retention.proofs.GraphPaths.{keeps_path, path_keeps, points_bounded, same_together, together_same}

module _ (g : Graph) (parts : List ℕ) (are : AreParts g parts) (i : ℕ) (inside : i < size g) where
  by_together : (t : ℕ) → Points g i t → AreTogether g t i → Keeps g i i
  by_together t e (inl same) = path_keeps g i i ([], subst (λ x. Points g i x) same e)
  by_together t e (inr it) = path_keeps g i i (path_trans (Points g) i t i ([], e) (keeps_path g t i it.0))

  pub cyclic_by : (t : ℕ) → Points g i t → get_or parts t 0 ≡ get_or parts i 0 → Keeps g i i
  cyclic_by t e same = by_together t e (are.same t i (points_bounded g i t e).1 inside same)

  abbrev pub HasEdge : Type 0
  HasEdge = (t : ℕ) × Points g i t × (get_or parts t 0 ≡ get_or parts i 0)

  edge_of : (cs : List ℕ) → Chain (Points g) i cs i → HasEdge
  edge_of [] e = (i, e, refl)
  edge_of (c ∷ cs) e = (c, e.0, are.all c i (points_bounded g i c e.0).1 inside (inr (path_keeps g c i (cs, e.1), path_keeps g i c ([], e.0))))

  pub cyclic_edge : Keeps g i i → HasEdge
  cyclic_edge k = let it = keeps_path g i i k in edge_of it.0 it.1

-- Once all objects have their components, these are the parts of the graph.
module _ (g : Graph) (order : List ℕ) (leaving : IsLeavingOrder (Points g) (size g) order) (marks : List Bool) (parts : List ℕ) (is : ArePartsFrom (Points g) (size g) order 0 marks parts) where
  all_marked : (x : ℕ) → x < size g → marked marks x ≡ true
  all_marked x h = let it = at_has order x (leaving.all x h) in subst (λ y. marked marks y ≡ true) it.2 (is.behind it.0 zero-le it.1)

  pub parts_end : AreParts g parts
  parts_end = record {
    long = is.parts_long;
    least = λ x h. let it = is.least x (all_marked x h) in (it.0, same_together g x (get_or parts x 0) it.1);
    same = λ x y h k e. same_together g x y (is.same x y (all_marked x h) (all_marked y k) e);
    all = λ x y h k t. is.all x y (all_marked x h) (all_marked y k) (together_same g x y t);
  }
