-- The numbers of objects that texts are.
use Rattle.std.proofs.Common.{◌≡◌, ◌+◌, ◌<◌, ℕ, zero, suc, List, [], ◌∷◌, ◌++◌, length, map, take, get_or, subst, sym, ap, ◌∙◌, arith, Option, Some, None, Bool, true, false, codes}
use Rattle.std.specs.Borrow.{Bor}
use Rattle.std.specs.List.{AllZip}
use Rattle.std.proofs.lemmas.List.{take_more, map-append, get_or-map, length-map}
use Rattle.clap.specs.Words.{Text, one_of, one_text, rows_of}
use Rattle.clap.specs.declared.parser.matches.Found.{Found}
use Rattle.clap.proofs.WalkLemmas.{one_text-rows}
use Rattle.command_words.specs.Named.{IsObject, IsGiven}

-- what references to texts lead to
abbrev pub read : List (Bor Text) → List Text
read = map (λ t. t.now)

push : (ts : List Text) (os : List ℕ) (t : Text) (o : ℕ) → AllZip IsObject ts os → IsObject t o → AllZip IsObject (ts ++ t ∷ []) (os ++ o ∷ [])
push [] [] t o all is = (is, tt)
push [] (p ∷ os) t o all is = absurd all
push (s ∷ ts) [] t o all is = absurd all
push (s ∷ ts) (p ∷ os) t o all is = (all.0, push ts os t o all.1 is)

-- one text more is a number
pub one_more : (ts : List (Bor Text)) (i : ℕ) (d : Bor Text) (os : List ℕ) (o : ℕ) → i < length ts → AllZip IsObject (read (take i ts)) os → IsObject (get_or ts i d).now o
    → AllZip IsObject (read (take (i + 1) ts)) (os ++ o ∷ [])
one_more ts i d os o lt all is =
    let same : read (take (i + 1) ts) ≡ read (take i ts) ++ (get_or ts i d).now ∷ [] =
    ap read (take_more ts i d lt) ∙ map-append (λ (x : Bor Text). x.now) (take i ts) (get_or ts i d ∷ []) in
    subst (λ xs. AllZip IsObject xs (os ++ o ∷ [])) (sym same) (push (read (take i ts)) os (get_or ts i d).now o all is)

at_place : (ts : List Text) (os : List ℕ) (i : ℕ) (d : Text) → i < length ts → AllZip IsObject ts os → (o : ℕ) × IsObject (get_or ts i d) o
at_place [] os i d lt all = absurd (omega arith)
at_place (t ∷ ts) [] i d lt all = absurd all
at_place (t ∷ ts) (o ∷ os) zero d lt all = (o, all.0)
at_place (t ∷ ts) (o ∷ os) (suc i) d lt all = at_place ts os i d (omega arith) all.1

-- one text that is no number, and they aren't numbers
pub one_wrong : (ts : List (Bor Text)) (i : ℕ) (d : Bor Text) → i < length ts → ((o : ℕ) → IsObject (get_or ts i d).now o → ⊥) → (os : List ℕ) → AllZip IsObject (read ts) os → ⊥
one_wrong ts i d lt none os all =
    let some = at_place (read ts) os i d.now (omega (arith, length-map ts (λ (x : Bor Text). x.now))) all in
    let same : get_or (read ts) i d.now ≡ (get_or ts i d).now = get_or-map (λ (x : Bor Text). x.now) ts i d d.now lt in
    none some.0 (subst (λ x. IsObject x some.0) same some.1)

-- what clap tells of an option without a value
pub given : (f : Found) (id : Text) (r : Bool) → (one_text f id ≡ None → r ≡ false) → (one_text f id ≡ Some (codes "true") → r ≡ true) → (one_text f id ≡ Some (codes "false") → r ≡ false)
    → IsGiven (one_of id (rows_of f)) r
given f id r at_none at_true at_false = record {
  yes = λ e. at_true (one_text-rows f id ∙ e);
  no = λ e. at_false (one_text-rows f id ∙ e);
  none = λ e. at_none (one_text-rows f id ∙ e);
}
