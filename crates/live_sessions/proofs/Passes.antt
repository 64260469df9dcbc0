-- A pass after a look and after a submit.
use Rattle.std.proofs.Common.{◌≡◌, ℕ, ◌+◌, ◌≤◌, List, [], ◌∷◌, ◌++◌, length, sym, ap, ◌∙◌, subst, arith}
use mathlib.Core.List.{IsPrefix}
use Rattle.edit_desk.specs.declared.entries.Entry.{Entry}
use Rattle.edit_desk.specs.declared.entries.Request.{Request}
use Rattle.edit_desk.specs.Versions.{Version}
use Rattle.live_sessions.specs.Desks.{IsAfter}
use Rattle.trace_types.specs.Operation.{Operation}
use Rattle.live_sessions.specs.Fronts.{IsFront, count_of}
use Rattle.live_sessions.specs.Views.{Stands, PassView, Submitted, SawFull, entry}
use Rattle.live_sessions.proofs.Counts.{count_of-append, all_others, one_if_is}
use Rattle.trace_types.specs.declared.limits.TheConstants.{MAX_ENTRIES}

abbrev pub seeing : ℕ → List Entry → ℕ → PassView
seeing s h a = record { session = s; front = h; answered = a }

pub count_of-prefix : (s : ℕ) (xs ys : List Entry) → IsPrefix xs ys → count_of s xs ≤ count_of s ys
count_of-prefix s xs ys p = omega (arith, ap (count_of s) p.1, count_of-append s xs p.0)

pub stands_later : (t : List Operation) (s a : ℕ) (g h : List Entry) (last p : Version) → Stands t (seeing s g a) last → IsPrefix g h → IsFront t h → IsAfter t p h → Stands t (seeing s h a) p
stands_later t s a g h last p st pre legal run = record {
  session_in = st.session_in;
  legal = legal;
  run = run;
  own = omega (arith, st.own, count_of-prefix s g h pre);
}

-- the entries after the front have none of the session's, where the counts agree
pub exact : (s a : ℕ) (g h : List Entry) → IsPrefix g h → a ≤ count_of s g → a ≡ count_of s h → a ≡ count_of s g
exact s a g h pre own same = omega (arith, own, same, count_of-prefix s g h pre)

-- the history after a submit, as the pass sees it
pub submitted : (t : List Operation) (old new : PassView) (h : List Entry) (e : Entry) (r : Request) → IsPrefix old.front h → old.answered ≤ count_of old.session old.front → old.answered ≡ count_of old.session h
    → new.front ≡ h ++ e ∷ [] → IsFront t (h ++ e ∷ []) → new.session ≡ old.session → new.answered ≡ count_of old.session h + 1 → e.session ≡ old.session → e.request ≡ r
    → Submitted t old new r e.reply
submitted t old new h e r pre own same front legal session answered mine asked =
    let rest = pre.0 in
    let none : count_of old.session rest ≡ 0 = omega (arith, own, same, count_of-append old.session old.front rest, ap (count_of old.session) pre.1) in
    let alike : e ≡ entry old.session r e.reply = λ i. entry (mine i) (asked i) e.reply in
    let more : count_of old.session (h ++ e ∷ []) ≡ count_of old.session h + 1 = omega (arith, count_of-append old.session h (e ∷ []), one_if_is e.session old.session mine) in record {
      between = rest;
      front = front ∙ (ap (λ (x : List Entry). x ++ e ∷ []) (sym pre.1) ∙ ap (λ (x : Entry). old.front ++ rest ++ x ∷ []) alike);
      others = all_others old.session rest none;
      legal = subst (IsFront t) (sym front) legal;
      session = session;
      answered = answered ∙ omega (arith, same);
      exactly = ap (λ (s : ℕ). count_of s new.front) session ∙ (ap (count_of old.session) front ∙ (more ∙ sym answered));
    }

-- the pass that saw a full history
pub saw_full : (t : List Operation) (old new : PassView) (h : List Entry) → IsPrefix old.front h → old.answered ≤ count_of old.session old.front → old.answered ≡ count_of old.session h
    → new.front ≡ h → IsFront t h → length h ≡ MAX_ENTRIES → new.session ≡ old.session → new.answered ≡ count_of old.session h → SawFull t old new
saw_full t old new h pre own same front legal long session answered =
    let rest = pre.0 in
    let none : count_of old.session rest ≡ 0 = omega (arith, own, same, count_of-append old.session old.front rest, ap (count_of old.session) pre.1) in record {
      between = rest;
      front = front ∙ sym pre.1;
      others = all_others old.session rest none;
      full = ap length front ∙ long;
      legal = subst (IsFront t) (sym front) legal;
      same = (session, answered ∙ sym same);
      exactly = ap (λ (s : ℕ). count_of s new.front) session ∙ (ap (count_of old.session) front ∙ sym answered);
    }
