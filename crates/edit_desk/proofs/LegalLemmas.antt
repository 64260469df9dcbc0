-- One entry more.
use Rattle.std.proofs.Common.{◌≡◌, ℕ, ◌+◌, ◌<◌, ◌≤◌, List, [], ◌∷◌, ◌++◌, length, Bool, true, false, refl, sym, ap, ◌∙◌, subst, arith}
use Rattle.std.specs.Prelude.{◌==◌, nat_le, if◌then◌else◌, Result, Ok, Err}
use Rattle.std.proofs.lemmas.Bool.Decides.{nat_tests}
use Rattle.trace_types.specs.Operation.{Operation}
use Rattle.trace_types.specs.declared.limits.TheConstants.{MAX_ENTRIES}
use Rattle.run_engine.specs.declared.editing.faults.Refusal.{Refusal}
use Rattle.run_engine.specs.Edited.{edited_by}
use Rattle.edit_desk.specs.declared.replies.Reply.{Reply}
use Rattle.edit_desk.specs.declared.replies.Reply.TheVariants.{Stale, HistoryFull}
use Rattle.edit_desk.specs.declared.entries.Request.{Request}
use Rattle.edit_desk.specs.declared.entries.Entry.{Entry}
use Rattle.edit_desk.specs.Answers.{Standing, opened, settled, reply_to, after_reply, after, LeadsTo, IsLegal}

-- the reply by what it depends on
abbrev chosen : Bool → Bool → ℕ → Result (List Operation) Refusal → Reply
chosen full same v x = if full then HistoryFull else (if same then settled v x else Stale v)

-- an entry that was answered rightly leads one step further
pub appended : (s : Standing) (es : List Entry) (end : Standing) (e : Entry) → LeadsTo s es end → e.reply ≡ reply_to end e.request
    → LeadsTo s (es ++ e ∷ []) (after end e.session e.request)
appended s [] end e is reply = (reply ∙ ap (λ (x : Standing). reply_to x e.request) (sym is), ap (λ (x : Standing). after x e.session e.request) is)
appended s (x ∷ es) end e leads reply = (leads.0, appended (after s x.session x.request) es end e leads.1 reply)

stored : (s : Standing) (e : Entry) (full same : Bool) (x : Result (List Operation) Refusal) → full ≡ false
    → (after_reply s e (chosen full same s.version x)).history ≡ s.history ++ e ∷ []
stored s e true same x is = absurd cc
stored s e false true (Ok ops) is = refl
stored s e false true (Err why) is = refl
stored s e false false x is = refl

one_more : (s : Standing) (e : Entry) (full same : Bool) (x : Result (List Operation) Refusal)
    → (after_reply s e (chosen full same s.version x)).version ≤ s.version + 1
one_more s e true same x = omega arith
one_more s e false true (Ok ops) = omega arith
one_more s e false true (Err why) = omega arith
one_more s e false false x = omega arith

is_room : (n : ℕ) → n < MAX_ENTRIES → nat_le MAX_ENTRIES n ≡ false
is_room n less = grind (arith, nat_tests)

-- the version grows by at most one
pub version_after : (s : Standing) (session : ℕ) (r : Request) → (after s session r).version ≤ s.version + 1
version_after s session r =
    let due : Entry = record { session = session; request = r; reply = reply_to s r } in
    one_more s due (nat_le MAX_ENTRIES (length s.history)) (r.base == s.version) (edited_by s.trace r.batch)

-- what stands after a request that there is room for
pub stands_after : (s : Standing) (e : Entry) (trace : List Operation) (version : ℕ) (history : List Entry) → length s.history < MAX_ENTRIES
    → e.reply ≡ reply_to s e.request → trace ≡ (after s e.session e.request).trace → version ≡ (after s e.session e.request).version → history ≡ s.history ++ e ∷ []
    → (let now : Standing = record { opening = s.opening; trace = trace; version = version; history = history } in now ≡ after s e.session e.request)
stands_after s e trace version history room reply trace_is version_is history_is =
    let due : Entry = record { session = e.session; request = e.request; reply = reply_to s e.request } in
    let same : e ≡ due = λ i. record { session = e.session; request = e.request; reply = reply i } in
    let told : (after s e.session e.request).history ≡ s.history ++ due ∷ [] =
    stored s due (nat_le MAX_ENTRIES (length s.history)) (e.request.base == s.version) (edited_by s.trace e.request.batch) (is_room (length s.history) room) in
    let all : history ≡ (after s e.session e.request).history = history_is ∙ ap (λ x. s.history ++ x ∷ []) same ∙ sym told in
    λ i. record { opening = s.opening; trace = trace_is i; version = version_is i; history = all i }

-- the history after a request that there is room for is one entry longer
pub stored_after : (s : Standing) (e : Entry) → length s.history < MAX_ENTRIES → e.reply ≡ reply_to s e.request → (after s e.session e.request).history ≡ s.history ++ e ∷ []
stored_after s e room reply =
    let next = after s e.session e.request in
    ap (λ (x : Standing). x.history) (sym (stands_after s e next.trace next.version (s.history ++ e ∷ []) room reply refl refl refl))

-- what is legal is legal after it
pub legal_after : (s : Standing) (e : Entry) → IsLegal s → length s.history < MAX_ENTRIES → e.reply ≡ reply_to s e.request → IsLegal (after s e.session e.request)
legal_after s e legal room reply =
    let next = after s e.session e.request in
    subst (λ (h : List Entry). LeadsTo (opened s.opening) h next) (sym (stored_after s e room reply)) (appended (opened s.opening) s.history s e legal reply)
