-- The rest of an old run with the remains exchanged, where a replay agrees with it.
use Rattle.std.proofs.Common.{◌≡◌, ℕ, ◌+◌, ◌<◌, suc, zero, List, [], ◌∷◌, ◌++◌, length, get_or, refl, ap, sym, subst, ◌∙◌, arith, append_assoc}
use Rattle.std.specs.Prelude.{Some, None, Option, is_some, IfSome, IsTrue, map, option_map}
use Rattle.trace_types.specs.Operation.{Operation}
use Rattle.trace_types.specs.Trace.{has_distinct_numbers}
use Rattle.std.specs.FinMap.{get}
use Rattle.ownership_model.specs.State.{State, IsSound, strong, weak}
use Rattle.ownership_model.specs.Step.{end_from, AreUnused}
use Rattle.ownership_model.specs.Agrees.{is_remaining}
use Rattle.ownership_model.specs.Patch.{Remains, patched}
use Rattle.ownership_model.specs.Laws.{StopsEarly, StopsLater}
use Rattle.ownership_model.proofs.LawsHold.{appends, patches}
use Rattle.agreement.specs.Agreement.{Agree}
use Rattle.agreement.specs.Meeting.{AgreeBut, apart_from}
use Rattle.run_engine.specs.SegmentView.{SegmentView}
use Rattle.run_engine.specs.Segments.{ops_of, trace_of, mark_here, marks_from, AreReplayFrom, AreFull, BeginsMarked, IsRunFrom}
use Rattle.run_engine.proofs.SegmentLemmas.{keys-from}
use Rattle.run_engine.specs.inner.Exchanged.{exchanged, CanExchange, IsExchangeable, AreExchangeable}

-- equal states agree
pub Agree-same : (new old : State) → new ≡ old → Agree new old
Agree-same new old e = record {
  handles = ap (λ (m : State). m.handles) e;
  cells = ap (λ (m : State). m.cells) e;
  scopes = ap (λ (m : State). m.scopes) e;
  entries = λ o k. ap (λ (m : State). get m.objects o) e;
  strongs = λ o k. ap (λ (m : State). strong m [] o) e;
  weaks = λ o k. ap (λ (m : State). weak m [] o) e;
}

-- two states that agree but for remains, and operations that may follow both
pub record GoOnAlike (new old : State) (x : Remains) (ops : List Operation) : Type 0 where
  pub agree : AgreeBut new old x
  pub distinct : IsTrue (has_distinct_numbers ops)
  pub unused : AreUnused new ops
  pub old_unused : AreUnused old ops

prefix-alike : (new old : State) (x : Remains) (ops more : List Operation) → GoOnAlike new old x (ops ++ more) → GoOnAlike new old x ops
prefix-alike new old x ops more h = record {
  agree = h.agree;
  distinct = appends.distinct_front ops more h.distinct;
  unused = appends.unused_front new ops more h.unused;
  old_unused = appends.unused_front old ops more h.old_unused;
}

-- behind them the new state is the old one with the remains exchanged
pub record IsExchangeOf (new old : State) (x : Remains) : Type 0 where
  pub can : CanExchange x old
  pub state : new ≡ patched old x

pub exchange-behind : (new old : State) (x : Remains) (ops : List Operation) → GoOnAlike new old x ops → IsExchangeOf (end_from new ops) (end_from old ops) x
exchange-behind new old x ops h =
    let stop : StopsEarly (is_remaining (apart_from x) new old) new old x ops = h.agree.law ops h.distinct h.unused h.old_unused in
    record {
      can = record {
        sound = subst (λ (m : State). IsSound m []) stop.end stop.sound;
        there = patches.there (apart_from x) new old (end_from old ops) x h.agree.remains stop.old_remains;
      };
      state = stop.end;
    }

each : (P Q : State → Type 0) (o : Option State) → ((m : State) → P m → Q m) → IfSome o P → IfSome o Q
each P Q None f h = tt
each P Q (Some m) f h = f m h

-- so it is with each checkpoint of later segments, where p was replayed before them
exchangeable-behind : (new old : State) (x : Remains) (p : List Operation) (later : List SegmentView) → GoOnAlike new old x (p ++ trace_of later) → AreReplayFrom (end_from old p) later → AreExchangeable x later
exchangeable-behind new old x p [] h replay = tt
exchangeable-behind new old x p (s ∷ later) h replay =
    let here : IsExchangeOf (end_from new p) (end_from old p) x = exchange-behind new old x p (prefix-alike new old x p (trace_of (s ∷ later)) h) in (
      (
        each (λ m. m ≡ end_from old p) (CanExchange x) s.mark (λ m e. subst (CanExchange x) (sym e) here.can) replay.0.mark,
        each (λ m. m ≡ end_from old p) (CanExchange x) s.anchor (λ m e. subst (CanExchange x) (sym e) here.can) replay.0.anchor,
      ),
      exchangeable-behind new old x (p ++ ops_of s) later (subst (GoOnAlike new old x) (sym (append_assoc p (ops_of s) (trace_of later))) h)
          (subst (λ m. AreReplayFrom m later) (sym (appends.end old p (ops_of s))) replay.1),
    )

pub exchangeable : (new old : State) (x : Remains) (later : List SegmentView) → GoOnAlike new old x (trace_of later) → AreReplayFrom old later → AreExchangeable x later
exchangeable new old x later h replay = exchangeable-behind new old x [] later h replay

patched-mark : (x : Remains) (new old : State) (o : Option State) → new ≡ patched old x → IfSome o (λ m. m ≡ old) → IfSome (option_map (λ m. patched m x) o) (λ m. m ≡ new)
patched-mark x new old None e h = tt
patched-mark x new old (Some m) e h = ap (λ (n : State). patched n x) h ∙ sym e

-- the later segments with the remains exchanged are a replay from the new state: their outcomes and keys stay
replay-behind : (new old : State) (x : Remains) (p : List Operation) (later : List SegmentView) → GoOnAlike new old x (p ++ trace_of later) → AreReplayFrom (end_from old p) later
    → AreReplayFrom (end_from new p) (map (exchanged x) later)
replay-behind new old x p [] h replay = tt
replay-behind new old x p (s ∷ later) h replay =
    let here : IsExchangeOf (end_from new p) (end_from old p) x = exchange-behind new old x p (prefix-alike new old x p (trace_of (s ∷ later)) h) in
    let more : GoOnAlike new old x ((p ++ ops_of s) ++ trace_of later) = subst (GoOnAlike new old x) (sym (append_assoc p (ops_of s) (trace_of later))) h in
    let next : GoOnAlike new old x (p ++ ops_of s) = prefix-alike new old x (p ++ ops_of s) (trace_of later) more in
    let stop : StopsLater new old x p (ops_of s) = patches.later (is_remaining (apart_from x) new old) new old x h.agree.law p (ops_of s) next.distinct next.unused next.old_unused in (
      record {
        mark = patched-mark x (end_from new p) (end_from old p) s.mark here.state replay.0.mark;
        anchor = patched-mark x (end_from new p) (end_from old p) s.anchor here.state replay.0.anchor;
        keys = keys-from s.keys (end_from old p) (end_from new p) (ops_of s) s.outcomes replay.0.keys (record { footprints = sym stop.footprints; moved = sym stop.moved });
        outcomes = replay.0.outcomes ∙ sym stop.outcomes;
      },
      subst (λ m. AreReplayFrom m (map (exchanged x) later)) (appends.end new p (ops_of s))
          (replay-behind new old x (p ++ ops_of s) later more (subst (λ m. AreReplayFrom m later) (sym (appends.end old p (ops_of s))) replay.1)),
    )

pub trace_of-exchanged : (x : Remains) (later : List SegmentView) → trace_of (map (exchanged x) later) ≡ trace_of later
trace_of-exchanged x [] = refl
trace_of-exchanged x (s ∷ later) = ap (λ ops. ops_of s ++ ops) (trace_of-exchanged x later)

here-exchanged : (x : Remains) (at : ℕ) (o : Option State) → mark_here at (option_map (λ m. patched m x) o) ≡ mark_here at o
here-exchanged x at None = refl
here-exchanged x at (Some m) = refl

pub marks_from-exchanged : (x : Remains) (at : ℕ) (later : List SegmentView) → marks_from at (map (exchanged x) later) ≡ marks_from at later
marks_from-exchanged x at [] = refl
marks_from-exchanged x at (s ∷ later) =
    ap (λ ps. ps ++ marks_from (at + length (ops_of s)) (map (exchanged x) later)) (here-exchanged x at s.mark)
    ∙ ap (λ ps. mark_here at s.mark ++ ps) (marks_from-exchanged x (at + length (ops_of s)) later)

full-exchanged : (x : Remains) (later : List SegmentView) → AreFull later → AreFull (map (exchanged x) later)
full-exchanged x [] h = tt
full-exchanged x (s ∷ later) h = (h.0, full-exchanged x later h.1)

some-exchanged : (x : Remains) (o : Option State) → IsTrue (is_some o) → IsTrue (is_some (option_map (λ m. patched m x) o))
some-exchanged x None h = h
some-exchanged x (Some m) h = refl

begins-exchanged : (x : Remains) (later : List SegmentView) → BeginsMarked later → BeginsMarked (map (exchanged x) later)
begins-exchanged x [] h = tt
begins-exchanged x (s ∷ later) h = some-exchanged x s.mark h

-- the rest of the old run, from a state that agrees
pub IsRunFrom-exchanged : (new old : State) (x : Remains) (later : List SegmentView) (end : State) → GoOnAlike new old x (trace_of later) → IsRunFrom old later end
    → IsRunFrom new (map (exchanged x) later) (patched end x)
IsRunFrom-exchanged new old x later end h run =
    let behind : IsExchangeOf (end_from new (trace_of later)) (end_from old (trace_of later)) x = exchange-behind new old x (trace_of later) h in
    record {
      replay = replay-behind new old x [] later h run.replay;
      full = full-exchanged x later run.full;
      begins = begins-exchanged x later run.begins;
      state = ap (λ (m : State). patched m x) run.state ∙ sym behind.state ∙ ap (end_from new) (sym (trace_of-exchanged x later));
    }

-- its end can be patched
pub end-exchangeable : (new old : State) (x : Remains) (later : List SegmentView) (end : State) → GoOnAlike new old x (trace_of later) → IsRunFrom old later end → CanExchange x end
end-exchangeable new old x later end h run = subst (CanExchange x) (sym run.state) (exchange-behind new old x (trace_of later) h).can

-- the segment at i
pub exchangeable-at : (x : Remains) (segments : List SegmentView) (i : ℕ) (s : SegmentView) → AreExchangeable x segments → i < length segments → s ≡ get_or segments i s → IsExchangeable x s
exchangeable-at x [] i s h lt is = absurd (omega arith)
exchangeable-at x (t ∷ segments) zero s h lt is = subst (IsExchangeable x) (sym is) h.0
exchangeable-at x (t ∷ segments) (suc i) s h lt is = exchangeable-at x segments i s h.1 (omega arith) is
