-- The checkpoints that a replay leaves, and those that are due.
use Rattle.std.proofs.Common.{◌≡◌, ℕ, ◌+◌, ◌-◌, ◌<◌, ◌≤◌, Bool, true, false, cond, nat_lt, ltb→lt, List, [], ◌∷◌, ◌++◌, length, refl, ap, sym, subst, ◌∙◌, T, arith, append_assoc}
use Rattle.std.specs.Prelude.{Some, take, get_or, ◌&&◌, nat_le, map, filter, fold, IsTrue, Contains}
use Rattle.std.proofs.lemmas.Bool.{le-leb, lt-leb}
use Rattle.std.proofs.lemmas.List.{append-nil}
use Rattle.std.proofs.lemmas.List.Elements.{filter-append}
use Rattle.ownership_model.specs.State.{State}
use Rattle.trace_types.specs.Operation.{Operation}
use Rattle.trace_types.specs.Trace.{has_distinct_numbers}
use Rattle.mark_shelf.specs.Shelf.{Shelf}
use Rattle.op_step.specs.Chunk.{Chunk}
use Rattle.run_engine.specs.Guesses.{Reusable}
use Rattle.run_engine.specs.inner.OldRun.{reusable_in}
use Rattle.run_engine.specs.RunView.{RunView}
use Rattle.run_engine.specs.NewMarks.{LeadTo, AreLaid, AreMarksOf, AreMarksAfter}
use Rattle.run_engine.specs.Memo.{HasSameMarks}
use Rattle.run_engine.specs.GivenUp.{AreTouches, given_up, names_at, between, AreMarksKept}
use Rattle.run_engine.specs.inner.Onward.{AreNames, LeaveSame, AreMarksTouched, AreAnswered, IsOnward, AreMarksLeft, AreMarksDue}
use Rattle.run_engine.specs.SegmentView.{SegmentView}
use Rattle.run_engine.specs.Segments.{trace_of, marks_from, all_marks, IsRun, IsRestart}
use Rattle.run_engine.specs.HeadAndTail.{ShareEnd, AreShared}
use Rattle.run_engine.specs.Bounds.{AgreesAt}
use Rattle.run_engine.proofs.MarksLemmas.{AreLaid-none, below-restart, from-stop, AreMarksOf-stop, AreMarksOf-end}
use Rattle.run_engine.proofs.OnwardLemmas.{names_at-append, names_at-end, AreAnswered-none, AreAnswered-next, LeaveSame-append}

same-prefix : (kept a b : List ℕ) → kept ++ a ≡ kept ++ b → a ≡ b
same-prefix [] a b h = h
same-prefix (p ∷ kept) a b h = let rest : kept ++ a ≡ kept ++ b = cc in same-prefix kept a b rest

-- what a replay has laid as far as a position
pub laid-all : (trace : List Operation) (old : Reusable) (kept marks : List ℕ) (r at : ℕ) (s t : Shelf) (f g : ℕ → Bool) → (h : IsOnward trace old r at kept marks s t f g) → AreLaid old kept r at (kept ++ h.more)
laid-all trace old kept marks r at s t f g h = h.way.lead kept r kept (AreLaid-none old kept r)

-- the names of the cuts, and of the place where it stands, are those of the restart and the new checkpoints
names-laid : (trace : List Operation) (kept more fresh : List ℕ) (r at : ℕ) → (kept ++ more) ++ at ∷ [] ≡ kept ++ r ∷ fresh → names_at trace (r ∷ fresh) ≡ names_at trace more ++ names_at trace (at ∷ [])
names-laid trace kept more fresh r at h =
    ap (names_at trace) (sym (same-prefix kept (more ++ at ∷ []) (r ∷ fresh) (sym (append_assoc kept more (at ∷ [])) ∙ h))) ∙ names_at-append trace more (at ∷ [])

-- after a stop, whose name was touched
pub AreMarksLeft-stop : (trace ops : List Operation) (old : Reusable) (kept marks later new : List ℕ) (r a b stop at : ℕ) (s t u : Shelf) (f g h : ℕ → Bool) → IsTrue (has_distinct_numbers ops)
    → (on : IsOnward ops old r at kept marks s t f g) → AreAnswered t u (names_at ops (at ∷ [])) g h → new ≡ marks ++ later
    → (of : AreMarksOf trace ops kept old ((kept ++ on.more) ++ later) r a b stop) → of.fresh ≡ (laid-all ops old kept marks r at s t f g on).fresh
    → AreMarksLeft (record { trace = trace; ops = ops; kept = kept; old = old; new = new; from = r; base = a; edited = b }) s u f h
AreMarksLeft-stop trace ops old kept marks later new r a b stop at s t u f g h distinct on last is of fresh =
    let laid = laid-all ops old kept marks r at s t f g on in
    record {
      all = (kept ++ on.more) ++ later;
      stop = stop;
      marks = of;
      left = λ names more. subst (λ ms. LeaveSame ops names ms ((kept ++ on.more) ++ later)) (sym is)
          (LeaveSame-append ops names marks (kept ++ on.more) later distinct (on.way.left names kept (λ id k. more id (last.rise id k)) refl));
      answered = subst (λ names. AreAnswered s u names f h) (sym (ap (λ ps. names_at ops (r ∷ ps)) fresh ∙ names-laid ops kept on.more laid.fresh r at laid.laid))
          (AreAnswered-next s t u (names_at ops on.more) (names_at ops (at ∷ [])) f g h on.answered last);
    }

-- positions that rise behind one
lead-bounds : (old : Reusable) (r to : ℕ) (fresh : List ℕ) → LeadTo old r fresh to → r ≤ to
lead-bounds old r to [] h = omega (arith, h)
lead-bounds old r to (p ∷ ps) h = let some = h.0.some in let rest : p ≤ to = lead-bounds old p to ps h.1 in omega arith

abbrev is-between : ℕ → ℕ → ℕ → Bool
is-between from to p = nat_le from p && nat_le p to

inside : (from to p : ℕ) → from ≤ p → p ≤ to → is-between from to p ≡ true
inside from to p le below = ap (λ b. b && nat_le p to) (le-leb from p le) ∙ le-leb p to below

before : (from to p : ℕ) → p < from → is-between from to p ≡ false
before from to p lt = let no : nat_le from p ≡ false = lt-leb from p lt in ap (λ b. b && nat_le p to) no

behind : (from to p : ℕ) → to < p → is-between from to p ≡ false
behind from to p lt = let no : nat_le p to ≡ false = lt-leb p to lt in ap (λ b. nat_le from p && b) no ∙ none (nat_le from p)
  where
    none : (b : Bool) → (b && false) ≡ false
    none true = refl
    none false = refl

between-lead : (old : Reusable) (from r to : ℕ) (fresh : List ℕ) → from ≤ r → LeadTo old r fresh to → between from to fresh ≡ fresh
between-lead old from r to [] le h = refl
between-lead old from r to (p ∷ ps) le h =
    let some = h.0.some in
    let below : p ≤ to = lead-bounds old p to ps h.1 in
    ap (λ b. cond b (p ∷ between from to ps) (between from to ps)) (inside from to p (omega arith) below) ∙ ap (λ qs. p ∷ qs) (between-lead old from p to ps (omega arith) h.1)

between-kept : (from to : ℕ) (ps : List ℕ) → between from to (filter (λ p. nat_lt p from) ps) ≡ []
between-kept from to [] = refl
between-kept from to (p ∷ ps) =
    elim (nat_lt p from) as (λ b. nat_lt p from ≡ b → between from to (cond b (p ∷ filter (λ q. nat_lt q from) ps) (filter (λ q. nat_lt q from) ps)) ≡ []) [
      | true ↦ λ t.
          let lt : p < from = ltb→lt p from (subst T (sym t) tt) in
          ap (λ b. cond b (p ∷ between from to (filter (λ q. nat_lt q from) ps)) (between from to (filter (λ q. nat_lt q from) ps))) (before from to p lt) ∙ between-kept from to ps
      | false ↦ λ _. between-kept from to ps
    ] refl

between-later : (from a b stop : ℕ) (ps : List ℕ) → a ≤ stop → between from (stop - a + b) (map (λ p. p - a + b) (filter (λ p. nat_lt stop p) ps)) ≡ []
between-later from a b stop [] le = refl
between-later from a b stop (p ∷ ps) le =
    let rest : List ℕ = map (λ q. q - a + b) (filter (λ q. nat_lt stop q) ps) in
    elim (nat_lt stop p) as (λ c. nat_lt stop p ≡ c → between from (stop - a + b) (map (λ q. q - a + b) (cond c (p ∷ filter (λ q. nat_lt stop q) ps) (filter (λ q. nat_lt stop q) ps))) ≡ []) [
      | true ↦ λ t.
          let lt : stop < p = ltb→lt stop p (subst T (sym t) tt) in
          ap (λ c. cond c ((p - a + b) ∷ between from (stop - a + b) rest) (between from (stop - a + b) rest)) (behind from (stop - a + b) (p - a + b) (omega arith)) ∙ between-later from a b stop ps le
      | false ↦ λ _. between-later from a b stop ps le
    ] refl

-- from the restart to the stop stand the restart and the new ones
pub between-marks : (guesses : List Chunk) (old new : RunView) (from to : ℕ) → (h : AreMarksAfter guesses old new from to) → between from to new.marks ≡ from ∷ h.marks.fresh
between-marks guesses old new from to h =
    let known : Reusable = record { marks = old.marks; guesses = guesses } in
    let a : ℕ = length old.trace - h.tail in
    let b : ℕ = length new.trace - h.tail in
    let kept : List ℕ = filter (λ p. nat_lt p from) old.marks in
    let fresh : List ℕ = h.marks.fresh in
    let later : List ℕ = map (λ p. p - a + b) (filter (λ p. nat_lt h.stop p) old.marks) in
    let test : ℕ → Bool = is-between from to in
    let there = h.to_is in
    let lead : LeadTo known from fresh to = subst (LeadTo known from fresh) (sym there) h.marks.lead in
    let le : from ≤ to = lead-bounds known from to fresh lead in
    ap (between from to) h.marks.new_is
    ∙ filter-append test kept (from ∷ (fresh ++ later))
    ∙ ap (λ ps. ps ++ filter test (from ∷ (fresh ++ later))) (between-kept from to old.marks)
    ∙ ap (λ c. cond c (from ∷ filter test (fresh ++ later)) (filter test (fresh ++ later))) (inside from to from (omega arith) le)
    ∙ ap (λ ps. from ∷ ps) (filter-append test fresh later
    ∙ ap (λ ps. ps ++ filter test later) (between-lead known from from to fresh (omega arith) lead)
    ∙ ap (λ ps. fresh ++ ps) (ap (λ n. between from n later) there ∙ between-later from a b h.stop old.marks h.marks.stop_is.behind)
    ∙ append-nil fresh)

-- the checkpoints that the names leave
pub AreMarksKept-due : (guesses : List Chunk) (old run new : RunView) (shelf mid after : Shelf) (gone : ℕ → Bool) → AreMarksDue guesses old run shelf mid gone → HasSameMarks mid after → new.trace ≡ run.trace
    → ((names : List ℕ) → AreNames gone names → new.marks ≡ fold (given_up run.trace) run.marks names) → AreMarksKept guesses old new shelf after
AreMarksKept-due guesses old run new shelf mid after gone due same trace marks = record {
  all = due.all;
  from = due.from;
  to = due.to;
  middle = record after { marks = shelf.marks };
  same_marks = record {
    marks = refl;
    most_marks = same.most_marks ∙ due.touched.most_marks;
    most_chunks = same.most_chunks ∙ due.touched.most_chunks;
    most_names = same.most_names ∙ due.touched.most_names;
  };
  replayed = subst (λ ops. AreMarksAfter guesses old (record { trace = ops; marks = due.all }) due.from due.to) (sym trace) due.replayed;
  touched = record {
    gone = due.names;
    touches = subst (λ ops. AreTouches (record after { marks = shelf.marks }) (names_at ops (between due.from due.to due.all)) due.names after) (sym trace)
        (subst (λ ms. AreTouches (record after { marks = shelf.marks }) (names_at run.trace (between due.from due.to due.all)) due.names (record after { marks = ms })) (sym same.marks)
        (due.touched.touches after (same.most_marks ∙ due.touched.most_marks)));
    trace = refl;
    marks = marks due.names due.gone_are ∙ due.left ∙ ap (λ ops. fold (given_up ops) due.all due.names) (sym trace);
  };
}

pub AreMarksDue-after : (guesses : List Chunk) (old new : RunView) (kept : List ℕ) (from to a b : ℕ) (s t : Shelf) (f g : ℕ → Bool) → AreNames f []
    → (left : AreMarksLeft (record { trace = old.trace; ops = new.trace; kept = kept; old = (record { marks = old.marks; guesses = guesses }); new = new.marks; from = from; base = a; edited = b }) s t f g)
    → (after : AreMarksAfter guesses old (record { trace = new.trace; marks = left.all }) from to) → after.marks.fresh ≡ left.marks.fresh → AreMarksDue guesses old new s t g
AreMarksDue-after guesses old new kept from to a b s t f g none left after fresh =
    let names : List ℕ = left.answered.answers in
    let are : AreNames g names = left.answered.join [] none in
    record {
      all = left.all;
      from = from;
      to = to;
      names = names;
      replayed = after;
      left = left.left names (λ id k. sym (are id) ∙ k);
      touched = subst (λ ps. AreMarksTouched s t ps names) (ap (names_at new.trace) (sym (between-marks guesses old (record { trace = new.trace; marks = left.all }) from to after ∙ ap (λ ps. from ∷ ps) fresh))) left.answered.touched;
      gone_are = are;
    }

-- the replay of an edited trace, from where it begins again
pub AreMarksDue-restart : (guesses : List Chunk) (segments prefix : List SegmentView) (end heap : State) (ops : List Operation) (new : List ℕ) (head tail i at : ℕ) (s t : Shelf) (f g : ℕ → Bool)
    → IsRun segments end → IsRestart segments head i at heap → prefix ≡ take i segments → AreShared (trace_of segments) ops head tail → AreNames f []
    → AreMarksLeft (record { trace = trace_of segments; ops = ops; kept = marks_from 0 prefix; old = reusable_in guesses segments; new = new; from = at; base = length (trace_of segments) - tail; edited = length ops - tail }) s t f g
    → AreMarksDue guesses (record { trace = trace_of segments; marks = all_marks segments }) (record { trace = ops; marks = new }) s t g
AreMarksDue-restart guesses segments prefix end heap ops new head tail i at s t f g run h is shared none left =
    let a : ℕ = length (trace_of segments) - tail in
    let b : ℕ = length ops - tail in
    let kept : List ℕ = filter (λ p. nat_lt p at) (all_marks segments) in
    let here : AreMarksLeft (record { trace = trace_of segments; ops = ops; kept = kept; old = reusable_in guesses segments; new = new; from = at; base = a; edited = b }) s t f g =
    subst (λ ms. AreMarksLeft (record { trace = trace_of segments; ops = ops; kept = ms; old = reusable_in guesses segments; new = new; from = at; base = a; edited = b }) s t f g) (ap (marks_from 0) is ∙ sym (below-restart segments i at run.full h.place)) left in
    AreMarksDue-after guesses (record { trace = trace_of segments; marks = all_marks segments }) (record { trace = ops; marks = new }) kept at (here.stop - a + b) a b s t f g none here
    (record { head = head; tail = tail; stop = here.stop; shared = shared; restart = h.greatest; marks = here.marks; to_is = refl }) refl

-- after a stop at the segment i, which begins at `at`
pub left-at-stop : (guesses : List Chunk) (old : List SegmentView) (ops : List Operation) (kept marks new : List ℕ) (a b i at r x : ℕ) (sg : SegmentView) (m : State) (s t u : Shelf) (f g h : ℕ → Bool) → IsTrue (has_distinct_numbers ops)
    → i < length old → sg ≡ get_or old i sg → sg.mark ≡ Some m → length (trace_of (take i old)) ≡ at → a ≤ at
    → AgreesAt (trace_of old) ops a b at → ((p : ℕ) → Contains (all_marks old) p → a ≤ p → AgreesAt (trace_of old) ops a b p → at ≤ p)
    → x ≡ at - a + b → IsOnward ops (reusable_in guesses old) r x kept marks s t f g → AreAnswered t u (names_at ops (x ∷ [])) g h → new ≡ marks ++ from-stop old a b at
    → AreMarksLeft (record { trace = trace_of old; ops = ops; kept = kept; old = reusable_in guesses old; new = new; from = r; base = a; edited = b }) s u f h
unfolding AreMarksOf-stop
left-at-stop guesses old ops kept marks new a b i at r x sg m s t u f g h distinct lt is mark place behind agrees first there on last whole =
    let here : IsOnward ops (reusable_in guesses old) r (at - a + b) kept marks s t f g = subst (λ y. IsOnward ops (reusable_in guesses old) r y kept marks s t f g) there on in
    AreMarksLeft-stop (trace_of old) ops (reusable_in guesses old) kept marks (from-stop old a b at) new r a b at (at - a + b) s t u f g h distinct here
    (subst (λ y. AreAnswered t u (names_at ops (y ∷ [])) g h) there last) whole
    (AreMarksOf-stop guesses old ops kept (kept ++ here.more) a b i at r sg lt is m mark place behind agrees first (laid-all ops (reusable_in guesses old) kept marks r (at - a + b) s t f g here)) refl

-- with no stop
pub left-at-end : (guesses : List Chunk) (old : List SegmentView) (ops : List Operation) (kept marks new : List ℕ) (a b r x : ℕ) (s t : Shelf) (f g : ℕ → Bool) → IsTrue (has_distinct_numbers ops)
    → ShareEnd (trace_of old) ops a b → ((p : ℕ) → Contains (all_marks old) p → a ≤ p → AgreesAt (trace_of old) ops a b p → length (trace_of old) ≤ p)
    → x ≡ length ops → IsOnward ops (reusable_in guesses old) r x kept marks s t f g → new ≡ marks ++ length ops ∷ []
    → AreMarksLeft (record { trace = trace_of old; ops = ops; kept = kept; old = reusable_in guesses old; new = new; from = r; base = a; edited = b }) s t f g
unfolding AreMarksOf-end
left-at-end guesses old ops kept marks new a b r x s t f g distinct shared first there on whole =
    let here : IsOnward ops (reusable_in guesses old) r (length ops) kept marks s t f g = subst (λ y. IsOnward ops (reusable_in guesses old) r y kept marks s t f g) there on in
    AreMarksLeft-stop (trace_of old) ops (reusable_in guesses old) kept marks (length ops ∷ []) new r a b (length (trace_of old)) (length ops) s t t f g g distinct here
    (subst (λ names. AreAnswered t t names g g) (sym (names_at-end ops)) (AreAnswered-none t g)) whole
    (AreMarksOf-end guesses old ops kept (kept ++ here.more) a b r shared first (laid-all ops (reusable_in guesses old) kept marks r (length ops) s t f g here)) refl
