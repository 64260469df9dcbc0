-- What stands after a beginning of a history, and after one entry more.
use Rattle.std.proofs.Common.{◌≡◌, ℕ, ◌+◌, ◌<◌, List, [], ◌∷◌, ◌++◌, length, Bool, true, false, refl, sym, ap, ◌∙◌, subst, arith}
use Rattle.std.specs.Prelude.{◌==◌, nat_le, if◌then◌else◌, Result, Ok, Err, IfOk}
use Rattle.std.proofs.lemmas.Bool.Decides.{nat_tests}
use Rattle.trace_types.specs.Operation.{Operation}
use Rattle.trace_types.specs.declared.limits.TheConstants.{MAX_ENTRIES}
use Rattle.run_engine.specs.declared.editing.faults.Refusal.{Refusal}
use Rattle.run_engine.specs.Edited.{edited_by}
use Rattle.edit_desk.specs.declared.replies.Reply.{Reply}
use Rattle.edit_desk.specs.declared.replies.Reply.TheVariants.{Accepted, Stale, Refused, HistoryFull}
use Rattle.edit_desk.specs.declared.entries.Request.{Request}
use Rattle.edit_desk.specs.declared.entries.Entry.{Entry}
use Rattle.edit_desk.specs.Answers.{Standing, opened, settled, reply_to, after_reply, after, LeadsTo, IsLegal}
use Rattle.edit_desk.specs.Versions.{Version, PreparedView, IsDue}
use Rattle.live_sessions.specs.Fronts.{is_full, standing_from, standing_of, IsFront, accepted_of, one_if_accepted}
use Rattle.live_sessions.specs.Desks.{CountedView, IsAfter, Follows}
use Rattle.live_sessions.specs.Views.{PassView, Submitted, SawFull, Replied, Grown, entry}

-- the end of what leads is what stands after it
pub leads_end : (s : Standing) (es : List Entry) (end : Standing) → LeadsTo s es end → end ≡ standing_from s es
leads_end s [] end is = sym is
leads_end s (e ∷ es) end leads = leads_end (after s e.session e.request) es end leads.1

pub opening_from : (s : Standing) (es : List Entry) → (standing_from s es).opening ≡ s.opening
opening_from s [] = refl
opening_from s (e ∷ es) = opening_from (after s e.session e.request) es

pub standing_snoc : (s : Standing) (es : List Entry) (e : Entry) → standing_from s (es ++ e ∷ []) ≡ after (standing_from s es) e.session e.request
standing_snoc s [] e = refl
standing_snoc s (x ∷ es) e = standing_snoc (after s x.session x.request) es e

-- a desk's standing is what stands after its history
pub stands_there : (s : Standing) → IsLegal s → s ≡ standing_of s.opening s.history
stands_there s legal = leads_end (opened s.opening) s.history s legal

pub is_front : (s : Standing) → IsLegal s → IsFront s.opening s.history
is_front s legal =
    let is = stands_there s legal in record {
      legal = subst IsLegal is legal;
      stored = ap (λ (x : Standing). x.history) (sym is);
    }

pub is_front_at : (t : List Operation) (s : Standing) → IsLegal s → s.opening ≡ t → IsFront t s.history
is_front_at t s legal is = subst (λ (x : List Operation). IsFront x s.history) is (is_front s legal)

pub leads_of : (t : List Operation) (h : List Entry) → IsFront t h → LeadsTo (opened t) h (standing_of t h)
leads_of t h f =
    let end = standing_of t h in
    subst (λ (x : List Operation × List Entry). LeadsTo (opened x.0) x.1 end) (λ i. (opening_from (opened t) h i, f.stored i)) f.legal

abbrev chosen : Bool → Bool → ℕ → Result (List Operation) Refusal → Reply
chosen full same v x = if full then HistoryFull else (if same then settled v x else Stale v)

one_more : (s : Standing) (e : Entry) (full same : Bool) (x : Result (List Operation) Refusal)
    → (after_reply s e (chosen full same s.version x)).version ≡ s.version + one_if_accepted (chosen full same s.version x)
one_more s e true same x = omega arith
one_more s e false true (Ok ops) = refl
one_more s e false true (Err fault) = omega arith
one_more s e false false x = omega arith

version_more : (s : Standing) (session : ℕ) (r : Request) → (after s session r).version ≡ s.version + one_if_accepted (reply_to s r)
version_more s session r =
    let due : Entry = record { session = session; request = r; reply = reply_to s r } in
    one_more s due (nat_le MAX_ENTRIES (length s.history)) (r.base == s.version) (edited_by s.trace r.batch)

version_from : (s : Standing) (es : List Entry) (end : Standing) → LeadsTo s es end → end.version ≡ s.version + accepted_of es
version_from s [] end is = omega (arith, ap (λ (x : Standing). x.version) is)
version_from s (e ∷ es) end leads =
    omega (arith, version_from (after s e.session e.request) es end leads.1, version_more s e.session e.request, ap one_if_accepted leads.0)

-- the version is the number of accepted entries
pub version_is : (t : List Operation) (h : List Entry) → IsFront t h → (standing_of t h).version ≡ accepted_of h
version_is t h f = omega (arith, version_from (opened t) h (standing_of t h) (leads_of t h f))

-- what stands, where the desk is legal
pub after_there : (t : List Operation) (s : Standing) (v : Version) → IsLegal s → s.opening ≡ t → v.version ≡ s.version → v.run.trace ≡ s.trace → IsAfter t v s.history
after_there t s v legal is version trace =
    let there : s ≡ standing_of t s.history = stands_there s legal ∙ ap (λ (x : List Operation). standing_of x s.history) is in
    let front = is_front_at t s legal is in (
      version ∙ (ap (λ (x : Standing). x.version) there ∙ version_is t s.history front),
      trace ∙ ap (λ (x : Standing). x.trace) there,
    )

-- what was prepared follows
pub follows_due : (t : List Operation) (h : List Entry) (p : PreparedView) → IsFront t h → IsDue (standing_of t h) p
    → (after (standing_of t h) p.entry.session p.entry.request).history ≡ (standing_of t h).history ++ p.entry ∷ []
    → IsLegal (after (standing_of t h) p.entry.session p.entry.request) → Follows t h p.entry p.next
follows_due t h p front due stored legal =
    let e = p.entry in
    let next : standing_of t (h ++ e ∷ []) ≡ after (standing_of t h) e.session e.request = standing_snoc (opened t) h e in
    let longer : IsFront t (h ++ e ∷ []) = record {
      legal = subst IsLegal (sym next) legal;
      stored = ap (λ (x : Standing). x.history) next ∙ (stored ∙ ap (λ (x : List Entry). x ++ e ∷ []) front.stored);
    } in (
      longer,
      (due.version ∙ (ap (λ (x : Standing). x.version) (sym next) ∙ version_is t (h ++ e ∷ []) longer), due.trace ∙ ap (λ (x : Standing). x.trace) (sym next)),
    )

is_room : (n : ℕ) → n < MAX_ENTRIES → nat_le MAX_ENTRIES n ≡ false
is_room n less = grind (arith, nat_tests)

not_chosen : (full same : Bool) (v : ℕ) (x : Result (List Operation) Refusal) → full ≡ false → is_full (chosen full same v x) ≡ false
not_chosen true same v x is = absurd cc
not_chosen false true v (Ok ops) is = refl
not_chosen false true v (Err fault) is = refl
not_chosen false false v x is = refl

-- a request that there is room for is not answered by HistoryFull
pub never_full : (s : Standing) (r : Request) → length s.history < MAX_ENTRIES → is_full (reply_to s r) ≡ false
never_full s r less = not_chosen (nat_le MAX_ENTRIES (length s.history)) (r.base == s.version) s.version (edited_by s.trace r.batch) (is_room (length s.history) less)

pub replied : (t : List Operation) (old new : PassView) (r : Request) (reply : Reply) → is_full reply ≡ false → Submitted t old new r reply → Replied t old new r reply
replied t old new r (Accepted version) nf sub = sub
replied t old new r (Stale version) nf sub = sub
replied t old new r (Refused fault) nf sub = sub
replied t old new r HistoryFull nf sub = absurd cc

pub grown : (before now : List Entry) (session : ℕ) (r : Request) (reply : Reply) → is_full reply ≡ false → now ≡ before ++ entry session r reply ∷ [] → Grown before now session r reply
grown before now session r (Accepted version) nf is = is
grown before now session r (Stale version) nf is = is
grown before now session r (Refused fault) nf is = is
grown before now session r HistoryFull nf is = absurd cc

-- the reply of a full history, which was seen
pub replied_full : (t : List Operation) (old new : PassView) (h : List Entry) (r : Request) (reply : Reply) → reply ≡ HistoryFull → SawFull t old new → Replied t old new r reply × Grown h h old.session r reply
replied_full t old new h r reply is saw = subst (λ (x : Reply). Replied t old new r x × Grown h h old.session r x) (sym is) (saw, refl)

-- a desk's standing, by what contracts see of it
pub standing_seen : (s : Standing) (v : CountedView) (room : ℕ) → IsLegal s → (let own : CountedView = record { opening = s.opening; history = s.history; room = room } in own ≡ v) → s ≡ standing_of v.opening v.history
standing_seen s v room legal is = stands_there s legal ∙ ap (λ (w : CountedView). standing_of w.opening w.history) is

pub all_follow : {E : Type 0} (t : List Operation) (h : List Entry) (r : Result PreparedView E) → IsFront t h → IfOk r (λ p. IsDue (standing_of t h) p)
    → IfOk r (λ p. (after (standing_of t h) p.entry.session p.entry.request).history ≡ (standing_of t h).history ++ p.entry ∷ [])
    → IfOk r (λ p. IsLegal (after (standing_of t h) p.entry.session p.entry.request)) → IfOk r (λ p. Follows t h p.entry p.next)
all_follow t h (Ok p) front due stored legal = follows_due t h p front due stored legal
all_follow t h (Err e) front due stored legal = tt

pub all_stored : {E : Type 0} (s : Standing) (r : Result PreparedView E) → length s.history < MAX_ENTRIES → IfOk r (λ p. IsDue s p) → IfOk r (λ p. is_full p.entry.reply ≡ false)
all_stored s (Ok p) room due = ap is_full due.reply ∙ never_full s p.entry.request room
all_stored s (Err e) room due = tt
