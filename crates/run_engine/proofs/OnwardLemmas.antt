-- A replay that goes on, and the names that are touched for it.
use Rattle.std.proofs.Common.{◌≡◌, ℕ, zero, suc, ◌+◌, ◌-◌, ◌%◌, ◌<◌, ◌≤◌, Bool, true, false, cond, nat_lt, le-ltb, List, [], ◌∷◌, ◌++◌, length, refl, ap, sym, subst, ◌∙◌, get_or, arith, append_assoc, length-append}
use Rattle.std.specs.Prelude.{◌&&◌, not, take, map, filter, filter_map, fold, Option, None, Some, IsTrue, option_to_list, Contains, slice_get, slice_index_or, option_map, ◌⊎◌}
use mathlib.Core.Logic.{⊎_elim, inl, inr}
use Rattle.std.proofs.lemmas.List.{append-nil, map-append, take_more}
use Rattle.std.proofs.lemmas.List.Elements.{filter-append, filter_map-append}
use Rattle.trace_types.specs.Operation.{Operation}
use Rattle.trace_types.specs.Trace.{has_distinct_numbers}
use Rattle.mark_shelf.specs.Shelf.{Shelf, Touches, touched, dropped, in_front}
use Rattle.run_engine.specs.SegmentView.{SegmentView}
use Rattle.run_engine.specs.Segments.{ops_of, trace_of}
use Rattle.run_engine.specs.inner.Cleared.{is_named}
use Rattle.run_engine.specs.Marks.{multiples_below}
use Rattle.run_engine.specs.Memo.{IsSearched, AreSome}
use Rattle.run_engine.specs.Guesses.{Reusable}
use Rattle.run_engine.specs.NewMarks.{IsGap, AreLaid}
use Rattle.run_engine.specs.GivenUp.{given_up, name_at, names_at}
use Rattle.run_engine.specs.inner.Onward.{begins, among, AreNames, AreMore, LeaveSame, cuts, AreMarksTouched, AreAnswered, IsWay, IsOnward}
use Rattle.run_engine.proofs.TouchLemmas.{AreTouches-append}
use Rattle.run_engine.proofs.AnsweredLemmas.{given_up-all}
use Rattle.run_engine.proofs.ClearedLemmas.{goes}
use Rattle.run_engine.proofs.LoadLemmas.{multiples_below-next}
use Rattle.run_engine.proofs.MarksLemmas.{LeadTo-append}
use Rattle.run_engine.proofs.NameLemmas.{name_at-behind}
use Rattle.std.proofs.lemmas.Option.{slice_get-get_or}

-- names

pub names_at-append : (trace : List Operation) (ms more : List ℕ) → names_at trace (ms ++ more) ≡ names_at trace ms ++ names_at trace more
names_at-append trace ms more =
    let inner : ℕ → Bool = λ p. nat_lt p (length trace) in
    ap (filter_map (name_at trace)) (filter-append inner ms more) ∙ filter_map-append (name_at trace) (filter inner ms) (filter inner more)

-- none stands at the end
pub names_at-end : (trace : List Operation) → names_at trace (length trace ∷ []) ≡ []
names_at-end trace = ap (λ b. filter_map (name_at trace) (cond b (length trace ∷ []) [])) (le-ltb (length trace) (length trace) (omega arith))

-- touches

pub AreMarksTouched-none : (s : Shelf) → AreMarksTouched s s [] []
AreMarksTouched-none s = record { touches = λ t e. (refl, refl); most_marks = refl; most_chunks = refl; most_names = refl; fewer = λ e h. h }

pub AreMarksTouched-searched : (a b : Shelf) → IsSearched a b → AreMarksTouched a b [] []
AreMarksTouched-searched a b h = record {
  touches = λ t e. (ap (λ ms. record t { marks = ms }) h.same_marks.marks, refl);
  most_marks = h.same_marks.most_marks;
  most_chunks = h.same_marks.most_chunks;
  most_names = h.same_marks.most_names;
  fewer = h.fewer;
}

pub AreMarksTouched-next : (a b c : Shelf) (names more gone others : List ℕ) → AreMarksTouched a b names gone → AreMarksTouched b c more others → AreMarksTouched a c (names ++ more) (gone ++ others)
AreMarksTouched-next a b c names more gone others h k = record {
  touches = λ s e. AreTouches-append _ _ _ names more gone others (h.touches s e) (k.touches s (e ∙ sym h.most_marks));
  most_marks = k.most_marks ∙ h.most_marks;
  most_chunks = k.most_chunks ∙ h.most_chunks;
  most_names = k.most_names ∙ h.most_names;
  fewer = λ e m. h.fewer e (k.fewer e m);
}

-- a touch on a shelf that has the same names of checkpoints, and as much room for them
touch-there : (old new s : Shelf) (id : ℕ) (answer : Option ℕ) → Touches old id new answer → s.most_marks ≡ old.most_marks → Touches (record s { marks = old.marks }) id (record s { marks = new.marks }) answer
touch-there old new s id answer h same = ⊎_elim
    (λ (t : (new ≡ touched old id) × (answer ≡ dropped old id)). inl (
      ap (λ (n : Shelf). record s { marks = n.marks }) t.0 ∙ ap (λ m. record s { marks = take m (in_front id old.marks) }) (sym same),
      t.1 ∙ ap (slice_get (in_front id old.marks)) (sym same),
    ))
    (λ (t : (Contains old.marks id → ⊥) × (new ≡ old) × (answer ≡ None)). inr (t.0, ap (λ (n : Shelf). record s { marks = n.marks }) t.1, t.2))
    h

touch-rest : (old new : Shelf) (id : ℕ) (answer : Option ℕ) → Touches old id new answer → (new.most_marks ≡ old.most_marks) × (new.most_chunks ≡ old.most_chunks) × (new.most_names ≡ old.most_names) × AreSome new.chunks old.chunks
touch-rest old new id answer h = ⊎_elim
    (λ (t : (new ≡ touched old id) × (answer ≡ dropped old id)). rw t.0 (refl, refl, refl, λ e m. m))
    (λ (t : (Contains old.marks id → ⊥) × (new ≡ old) × (answer ≡ None)). rw t.1 (refl, refl, refl, λ e m. m))
    h

pub AreMarksTouched-one : (old new : Shelf) (id : ℕ) (answer : Option ℕ) → Touches old id new answer → AreMarksTouched old new (id ∷ []) (option_to_list answer)
AreMarksTouched-one old new id answer h =
    let rest = touch-rest old new id answer h in
    record {
      touches = λ s e. (answer, (record s { marks = new.marks }), [], touch-there old new s id answer h e, (refl, refl), sym (append-nil (option_to_list answer)));
      most_marks = rest.0;
      most_chunks = rest.1;
      most_names = rest.2;
      fewer = rest.3;
    }

-- touches, and the answered names join a set

pub AreAnswered-searched : (a b : Shelf) (named : ℕ → Bool) → IsSearched a b → AreAnswered a b [] named named
AreAnswered-searched a b named h = record {
  answers = [];
  touched = AreMarksTouched-searched a b h;
  join = λ first k. subst (AreNames named) (sym (append-nil first)) k;
  rise = λ id h. h;
}

pub AreAnswered-none : (s : Shelf) (named : ℕ → Bool) → AreAnswered s s [] named named
AreAnswered-none s named = record {
  answers = [];
  touched = AreMarksTouched-none s;
  join = λ first k. subst (AreNames named) (sym (append-nil first)) k;
  rise = λ id h. h;
}

pub AreAnswered-next : (a b c : Shelf) (names more : List ℕ) (f g h : ℕ → Bool) → AreAnswered a b names f g → AreAnswered b c more g h → AreAnswered a c (names ++ more) f h
AreAnswered-next a b c names more f g h first second = record {
  answers = first.answers ++ second.answers;
  touched = AreMarksTouched-next a b c names more first.answers second.answers first.touched second.touched;
  join = λ start k. subst (AreNames h) (append_assoc start first.answers second.answers) (second.join (start ++ first.answers) (first.join start k));
  rise = λ id k. second.rise id (first.rise id k);
}

-- the way of a replay

pub AreLaid-on : (old : Reusable) (kept : List ℕ) (r at len : ℕ) (all : List ℕ) → IsGap old len → AreLaid old kept r at all → AreLaid old kept r (at + len) (all ++ at ∷ [])
AreLaid-on old kept r at len all gap laid = record {
  fresh = laid.fresh ++ (at + len) ∷ [];
  laid = ap (λ ps. ps ++ (at + len) ∷ []) laid.laid ∙ append_assoc kept (r ∷ laid.fresh) ((at + len) ∷ []);
  lead = LeadTo-append old r laid.fresh at len laid.lead gap;
}

-- names give up of two lists what they give up of each
given_up-both : (trace : List Operation) (names a b : List ℕ) → IsTrue (has_distinct_numbers trace) → fold (given_up trace) (a ++ b) names ≡ fold (given_up trace) a names ++ fold (given_up trace) b names
given_up-both trace names a b distinct =
    let stays : ℕ → Bool = λ p. not (goes (among names) trace p) in
    given_up-all trace names (a ++ b) distinct ∙ filter-append stays a b
    ∙ ap (λ ps. ps ++ filter stays b) (sym (given_up-all trace names a distinct))
    ∙ ap (λ ps. fold (given_up trace) a names ++ ps) (sym (given_up-all trace names b distinct))

pub LeaveSame-append : (trace : List Operation) (names marks all more : List ℕ) → IsTrue (has_distinct_numbers trace) → LeaveSame trace names marks all → LeaveSame trace names (marks ++ more) (all ++ more)
LeaveSame-append trace names marks all more distinct h =
    given_up-both trace names marks more distinct ∙ ap (λ ps. ps ++ fold (given_up trace) more names) h ∙ sym (given_up-both trace names all more distinct)

-- the name of the checkpoint at a position is one of these
named-at : (trace : List Operation) (named : ℕ → Bool) (p : ℕ) (o : Option ℕ) → option_to_list o ≡ names_at trace (p ∷ []) → is_named named o ≡ true → goes named trace p ≡ true
named-at trace named p None is h = cc
named-at trace named p (Some id) is h = by_end (nat_lt p (length trace)) refl
  where
    by_name : (q : Option ℕ) → name_at trace p ≡ q → id ∷ [] ≡ option_to_list q → is_named named (name_at trace p) ≡ true
    by_name None e f = cc
    by_name (Some x) e f = let same : id ≡ x = cc in ap (is_named named) e ∙ ap named (sym same) ∙ h

    one : (q : Option ℕ) → name_at trace p ≡ q → filter_map (name_at trace) (p ∷ []) ≡ option_to_list q
    one None e = rw e refl
    one (Some x) e = rw e refl

    by_end : (b : Bool) → nat_lt p (length trace) ≡ b → (nat_lt p (length trace) && is_named named (name_at trace p)) ≡ true
    by_end true lt =
        ap (λ b. b && is_named named (name_at trace p)) lt
        ∙ by_name (name_at trace p) refl (is ∙ ap (λ b. filter_map (name_at trace) (cond b (p ∷ []) [])) lt ∙ one (name_at trace p) refl)
    by_end false ge = let none : id ∷ [] ≡ [] = is ∙ ap (λ b. filter_map (name_at trace) (cond b (p ∷ []) [])) ge in cc

named-more : (f g : ℕ → Bool) (o : Option ℕ) → AreMore f g → is_named f o ≡ true → is_named g o ≡ true
named-more f g None h k = k
named-more f g (Some id) h k = h id k

-- a checkpoint that is given up need not be there
LeaveSame-bare : (trace : List Operation) (names marks all : List ℕ) (p : ℕ) → IsTrue (has_distinct_numbers trace) → goes (among names) trace p ≡ true → LeaveSame trace names marks all → LeaveSame trace names marks (all ++ p ∷ [])
LeaveSame-bare trace names marks all p distinct gone h =
    h ∙ sym (given_up-both trace names all (p ∷ []) distinct
    ∙ ap (λ ps. fold (given_up trace) all names ++ ps) (given_up-all trace names (p ∷ []) distinct ∙ ap (λ b. cond (not b) (p ∷ []) []) gone)
    ∙ append-nil (fold (given_up trace) all names))

pub IsWay-marked : (trace : List Operation) (old : Reusable) (at len : ℕ) (marks new : List ℕ) (gone : ℕ → Bool) → IsTrue (has_distinct_numbers trace) → IsGap old len → new ≡ marks ++ at ∷ [] → IsWay trace old at (at + len) (at ∷ []) marks new gone
IsWay-marked trace old at len marks new gone distinct gap is = record {
  lead = λ kept r all laid. AreLaid-on old kept r at len all gap laid;
  left = λ names all more h. subst (λ ms. LeaveSame trace names ms (all ++ at ∷ [])) (sym is) (LeaveSame-append trace names marks all (at ∷ []) distinct h);
}

pub IsWay-bare : (trace : List Operation) (old : Reusable) (at len : ℕ) (marks new : List ℕ) (gone : ℕ → Bool) (name : Option ℕ) → IsTrue (has_distinct_numbers trace) → IsGap old len
    → option_to_list name ≡ names_at trace (at ∷ []) → is_named gone name ≡ true → new ≡ marks → IsWay trace old at (at + len) (at ∷ []) marks new gone
IsWay-bare trace old at len marks new gone name distinct gap there answered is = record {
  lead = λ kept r all laid. AreLaid-on old kept r at len all gap laid;
  left = λ names all more h. subst (λ ms. LeaveSame trace names ms (all ++ at ∷ [])) (sym is)
      (LeaveSame-bare trace names marks all at distinct (named-at trace (among names) at name there (named-more gone (among names) name more answered)) h);
}

pub IsWay-none : (trace : List Operation) (old : Reusable) (at : ℕ) (marks : List ℕ) (gone : ℕ → Bool) → IsWay trace old at at [] marks marks gone
IsWay-none trace old at marks gone = record {
  lead = λ kept r all laid. subst (AreLaid old kept r at) (sym (append-nil all)) laid;
  left = λ names all more h. subst (LeaveSame trace names marks) (sym (append-nil all)) h;
}

pub IsWay-next : (trace : List Operation) (old : Reusable) (at mid to : ℕ) (more others marks first second : List ℕ) (f g : ℕ → Bool)
    → AreMore f g → IsWay trace old at mid more marks first f → IsWay trace old mid to others first second g → IsWay trace old at to (more ++ others) marks second g
IsWay-next trace old at mid to more others marks first second f g rise h k = record {
  lead = λ kept r all laid. subst (AreLaid old kept r to) (append_assoc all more others) (k.lead kept r (all ++ more) (h.lead kept r all laid));
  left = λ names all some same. subst (LeaveSame trace names second) (append_assoc all more others)
      (k.left names (all ++ more) some (h.left names all (λ id t. some id (rise id t)) same));
}

pub IsOnward-none : (trace : List Operation) (old : Reusable) (at : ℕ) (marks : List ℕ) (s : Shelf) (gone : ℕ → Bool) → IsOnward trace old at at marks marks s s gone gone
IsOnward-none trace old at marks s gone = record { more = []; way = IsWay-none trace old at marks gone; answered = AreAnswered-none s gone }

pub IsOnward-next : (trace : List Operation) (old : Reusable) (at mid to : ℕ) (marks first second : List ℕ) (a b c : Shelf) (f g h : ℕ → Bool)
    → IsOnward trace old at mid marks first a b f g → IsOnward trace old mid to first second b c g h → IsOnward trace old at to marks second a c f h
IsOnward-next trace old at mid to marks first second a b c f g h one two = record {
  more = one.more ++ two.more;
  way = IsWay-next trace old at mid to one.more two.more marks first second g h two.answered.rise one.way two.way;
  answered = subst (λ names. AreAnswered a c names f h) (sym (names_at-append trace one.more two.more)) (AreAnswered-next a b c (names_at trace one.more) (names_at trace two.more) f g h one.answered two.answered);
}

-- the name at a position is touched, and then a piece with a checkpoint there is taken
pub IsOnward-piece : (trace : List Operation) (old : Reusable) (at len : ℕ) (marks new : List ℕ) (a b c : Shelf) (f g : ℕ → Bool)
    → IsTrue (has_distinct_numbers trace) → IsGap old len → new ≡ marks ++ at ∷ [] → AreAnswered a b (names_at trace (at ∷ [])) f g → IsSearched b c → IsOnward trace old at (at + len) marks new a c f g
IsOnward-piece trace old at len marks new a b c f g distinct gap is answered searched = record {
  more = at ∷ [];
  way = IsWay-marked trace old at len marks new g distinct gap is;
  answered = subst (λ names. AreAnswered a c names f g) (append-nil (names_at trace (at ∷ []))) (AreAnswered-next a b c (names_at trace (at ∷ [])) [] f g g answered (AreAnswered-searched b c g searched));
}

-- cuts

pub cuts-none : (from : ℕ) → cuts from from ≡ []
cuts-none from = let none : from - from ≡ 0 = omega arith in ap (λ n. map (λ p. from + p) (multiples_below n)) none

pub cuts-next : (from at len : ℕ) → from ≤ at → (at - from) % 64 ≡ 0 → 0 < len → len ≤ 64 → cuts from (at + len) ≡ cuts from at ++ at ∷ []
cuts-next from at len le z pos small =
    let long : at + len - from ≡ at - from + len = omega arith in
    let there : from + (at - from) ≡ at = omega arith in
    ap (λ n. map (λ p. from + p) (multiples_below n)) long
    ∙ ap (map (λ p. from + p)) (multiples_below-next (at - from) len z pos small)
    ∙ map-append (λ p. from + p) (multiples_below (at - from)) ((at - from) ∷ [])
    ∙ ap (λ p. cuts from at ++ p ∷ []) there

-- the names of the cuts as far as a position, and one more
pub AreAnswered-cut : (trace : List Operation) (from at len : ℕ) (a b c : Shelf) (f g h : ℕ → Bool) → from ≤ at → (at - from) % 64 ≡ 0 → 0 < len → len ≤ 64
    → AreAnswered a b (names_at trace (cuts from at)) f g → AreAnswered b c (names_at trace (at ∷ [])) g h → AreAnswered a c (names_at trace (cuts from (at + len))) f h
AreAnswered-cut trace from at len a b c f g h le z pos small first second =
    subst (λ names. AreAnswered a c names f h) (sym (ap (names_at trace) (cuts-next from at len le z pos small) ∙ names_at-append trace (cuts from at) (at ∷ [])))
    (AreAnswered-next a b c (names_at trace (cuts from at)) (names_at trace (at ∷ [])) f g h first second)

pub IsWay-cut : (trace : List Operation) (old : Reusable) (from at len : ℕ) (marks first second : List ℕ) (gone : ℕ → Bool) → from ≤ at → (at - from) % 64 ≡ 0 → 0 < len → len ≤ 64
    → IsWay trace old from at (cuts from at) marks first gone → IsWay trace old at (at + len) (at ∷ []) first second gone → IsWay trace old from (at + len) (cuts from (at + len)) marks second gone
IsWay-cut trace old from at len marks first second gone le z pos small one two =
    subst (λ more. IsWay trace old from (at + len) more marks second gone) (sym (cuts-next from at len le z pos small))
    (IsWay-next trace old from at (at + len) (cuts from at) (at ∷ []) marks first second gone gone (λ id t. t) one two)

-- where segments begin, and others behind them
begins-append : (at : ℕ) (segments more : List SegmentView) → begins at (segments ++ more) ≡ begins at segments ++ begins (at + length (trace_of segments)) more
begins-append at [] more = let here : at ≡ at + 0 = omega arith in ap (λ n. begins n more) here
begins-append at (s ∷ segments) more =
    let there : at + length (ops_of s) + length (trace_of segments) ≡ at + length (ops_of s ++ trace_of segments) = omega (arith, length-append (ops_of s) (trace_of segments)) in
    ap (λ ps. at ∷ ps) (begins-append (at + length (ops_of s)) segments more ∙ ap (λ n. begins (at + length (ops_of s)) segments ++ begins n more) there)

-- the names of the first segments are touched, and that of one more
pub AreAnswered-begun : (trace : List Operation) (from : ℕ) (segments : List SegmentView) (i at : ℕ) (s : SegmentView) (a b c : Shelf) (f g h : ℕ → Bool) → i < length segments → s ≡ get_or segments i s
    → at ≡ from + length (trace_of (take i segments)) → AreAnswered a b (names_at trace (begins from (take i segments))) f g → AreAnswered b c (names_at trace (at ∷ [])) g h
    → AreAnswered a c (names_at trace (begins from (take (i + 1) segments))) f h
AreAnswered-begun trace from segments i at s a b c f g h lt is place first second =
    let more : begins from (take (i + 1) segments) ≡ begins from (take i segments) ++ at ∷ [] =
    ap (begins from) (take_more segments i s lt ∙ ap (λ t. take i segments ++ t ∷ []) (sym is)) ∙ begins-append from (take i segments) (s ∷ []) ∙ ap (λ n. begins from (take i segments) ++ n ∷ []) (sym place) in
    subst (λ names. AreAnswered a c names f h) (sym (ap (names_at trace) more ∙ names_at-append trace (begins from (take i segments)) (at ∷ [])))
    (AreAnswered-next a b c (names_at trace (begins from (take i segments))) (names_at trace (at ∷ [])) f g h first second)

-- one touch, after which the answered name is added
pub AreAnswered-one : (trace : List Operation) (old new : Shelf) (id at : ℕ) (answer name : Option ℕ) (f g : ℕ → Bool) → Touches old id new answer → name ≡ Some id → option_to_list name ≡ names_at trace (at ∷ [])
    → ((first : List ℕ) → AreNames f first → AreNames g (first ++ option_to_list answer)) → AreMore f g → AreAnswered old new (names_at trace (at ∷ [])) f g
AreAnswered-one trace old new id at answer name f g touch is there join rise =
    subst (λ names. AreAnswered old new names f g) (ap option_to_list (sym is) ∙ there)
    (record { answers = option_to_list answer; touched = AreMarksTouched-one old new id answer touch; join = join; rise = rise })

-- the names of the cuts are touched, and then the operations are stepped
pub IsOnward-ahead : (trace : List Operation) (old : Reusable) (at to : ℕ) (marks new : List ℕ) (a b c : Shelf) (f g : ℕ → Bool)
    → AreAnswered a b (names_at trace (cuts at to)) f g → IsSearched b c → IsWay trace old at to (cuts at to) marks new g → IsOnward trace old at to marks new a c f g
IsOnward-ahead trace old at to marks new a b c f g answered searched way = record {
  more = cuts at to;
  way = way;
  answered = subst (λ names. AreAnswered a c names f g) (append-nil (names_at trace (cuts at to))) (AreAnswered-next a b c (names_at trace (cuts at to)) [] f g g answered (AreAnswered-searched b c g searched));
}

-- the name of a place inside, told by the operation before it
pub inner-name : (trace : List Operation) (at : ℕ) (op : Operation) → 0 < at → at < length trace → op ≡ slice_index_or trace (at - 1) op → Some op.id ≡ name_at trace at
inner-name trace at op pos lt is =
    sym (name_at-behind trace at pos ∙ ap (option_map (λ (o : Operation). o.id)) (slice_get-get_or trace (at - 1) op (omega arith) ∙ ap Some (sym is)))

-- none stands at the begin, and behind the end
pub names_at-outside : (trace : List Operation) (at : ℕ) → (at ≡ 0) ⊎ (length trace ≤ at) → names_at trace (at ∷ []) ≡ []
names_at-outside trace at h = ⊎_elim
    (λ e. ap (λ p. names_at trace (p ∷ [])) e ∙ zero-name (nat_lt 0 (length trace)))
    (λ le. ap (λ b. filter_map (name_at trace) (cond b (at ∷ []) [])) (le-ltb at (length trace) le))
    h
  where
    zero-name : (b : Bool) → filter_map (name_at trace) (cond b (0 ∷ []) []) ≡ []
    zero-name true = refl
    zero-name false = refl

-- a name stands behind an operation
pub named-behind : (trace : List Operation) (named : ℕ → Bool) (at : ℕ) (name : Option ℕ) → option_to_list name ≡ names_at trace (at ∷ []) → is_named named name ≡ true → 0 < at
named-behind trace named (suc at) name is h = omega arith
named-behind trace named zero None is h = cc
named-behind trace named zero (Some id) is h = let none : id ∷ [] ≡ [] = is ∙ names_at-outside trace 0 (inl refl) in cc
