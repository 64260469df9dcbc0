-- What a race leaves: the history answers each session's requests.
use Rattle.std.proofs.Common.{◌≡◌, ◌≢◌, ◌⊎◌, inl, inr, ℕ, ◌<◌, ◌≤◌, List, [], ◌∷◌, ◌++◌, length, map, get_or, Option, Some, refl, ap, sym, ◌∙◌, subst, arith, length-append}
use Rattle.std.proofs.lemmas.List.{length-map}
use Rattle.std.specs.Prelude.{slice_index_or}
use Rattle.std.specs.List.{All}
use Rattle.std.proofs.lemmas.Bool.{cases_lt}
use Rattle.std.proofs.lemmas.List.{get_or-map, get_or_past, get_or_append_left, get_or_push}
use Rattle.std.proofs.lemmas.List.Elements.{All-get_or}
use mathlib.Core.List.{IsPrefix}
use Rattle.edit_desk.specs.declared.entries.Entry.{Entry}
use Rattle.edit_desk.specs.declared.entries.Request.{Request}
use Rattle.live_sessions.specs.Fronts.{count_of}
use Rattle.live_sessions.specs.Views.{PassView}
use Rattle.live_sessions.specs.Races.{SubmitterView, given, IsFresh, AllFresh, AllAsk, AsksAt, Asks, AreAsked, AddUp, asked, asked_by}
use Rattle.live_sessions.proofs.Fronts.{prefix_length}
use Rattle.live_sessions.proofs.Owns.{own_of-others}
use Rattle.live_sessions.proofs.Races.{asked_whole}
use Rattle.live_sessions.specs.declared.limits.TheConstants.{PLACES}
use Rattle.trace_types.specs.declared.limits.TheConstants.{MAX_ENTRIES}

-- what the front of a receipt has is what the whole history has
whole : (s : ℕ) (requests : List Request) (front h : List Entry) → AreAsked requests (asked_by s front) (length front) → IsPrefix front h → count_of s front ≡ count_of s h → length h ≤ MAX_ENTRIES
    → AreAsked requests (asked_by s h) (length h)
whole s requests front h (inl all) pre same most = inl (asked_whole s front h pre same ∙ all)
whole s requests front h (inr first) pre same most =
    let alike : asked_by s h ≡ asked_by s front = asked_whole s front h pre same in
    inr (subst (λ (x : List Request). IsPrefix x requests) (sym alike) first.0, omega (arith, first.1, prefix_length front h pre, most))

-- the submitter of session s had seen nothing
from_fresh : (s : ℕ) (r : SubmitterView) (p : PassView) → IsFresh s r → Asks r.pass r.requests p → AreAsked r.requests (asked_by s p.front) (length p.front)
from_fresh s r p is asks =
    let none : asked_by r.pass.session r.pass.front ≡ [] = ap (asked_by r.pass.session) is.1 in
    let start : AreAsked r.requests (asked_by r.pass.session p.front) (length p.front) = subst (λ (x : List Request). AreAsked (x ++ r.requests) (asked_by r.pass.session p.front) (length p.front)) none asks.1 in
    subst (λ (k : ℕ). AreAsked r.requests (asked_by k p.front) (length p.front)) is.0 start

no_submitter : SubmitterView
no_submitter = record { pass = record { session = 0; front = []; answered = 0 }; requests = [] }

no_receipt : PassView
no_receipt = record { session = 0; front = []; answered = 0 }

-- of a session that has a place
of_place : (s : ℕ) (requests : List (List Request)) (submitters : List SubmitterView) (left : List (Option PassView)) (receipts : List PassView) (h : List Entry)
    → s < PLACES → length requests ≡ PLACES → map given submitters ≡ requests → AllFresh submitters → AllAsk submitters left → length left ≡ length submitters → map Some receipts ≡ left
    → All (λ r. IsPrefix r.front h) receipts → AddUp h receipts → length h ≤ MAX_ENTRIES
    → AreAsked (slice_index_or requests s []) (asked_by s h) (length h)
of_place s requests submitters left receipts h less sixteen handed fresh asks as_many all_of begun sums most =
    let many : length submitters ≡ PLACES = omega (arith, sixteen, ap length handed, length-map submitters given) in
    let here : s < length submitters = omega (arith, less, many) in
    let there : s < length receipts = omega (arith, less, many, as_many, ap length all_of, length-map receipts (λ (p : PassView). Some p)) in
    let r = get_or submitters s no_submitter in
    let p = get_or receipts s no_receipt in
    let own : get_or requests s [] ≡ r.requests = ap (λ (x : List (List Request)). get_or x s []) (sym handed) ∙ get_or-map given submitters s no_submitter [] here in
    let found : get_or left s (Some no_receipt) ≡ Some p = ap (λ (x : List (Option PassView)). get_or x s (Some no_receipt)) (sym all_of) ∙ get_or-map Some receipts s no_receipt (Some no_receipt) there in
    let ran : Asks r.pass r.requests p = subst (AsksAt r) found (asks s no_submitter (Some no_receipt) here) in
    let front : AreAsked r.requests (asked_by s p.front) (length p.front) = from_fresh s r p (fresh s no_submitter here) ran in
    subst (λ (x : List Request). AreAsked x (asked_by s h) (length h)) (sym own)
    (whole s r.requests p.front h front (All-get_or (λ (x : PassView). IsPrefix x.front h) receipts s no_receipt there begun) (sums s no_receipt less) most)

-- of another session
of_none : (s : ℕ) (requests : List (List Request)) (h : List Entry) → PLACES ≤ s → length requests ≡ PLACES → All (λ e. e.session < PLACES) h
    → AreAsked (slice_index_or requests s []) (asked_by s h) (length h)
of_none s requests h more sixteen sessions =
    let others : All (λ e. e.session ≢ s) h = λ k d lt e. absurd (omega (arith, sessions k d lt, more, e)) in
    inl (ap (map asked) (own_of-others s h others) ∙ sym (get_or_past requests s [] (omega (arith, more, sixteen))))

pub raced : (requests : List (List Request)) (submitters : List SubmitterView) (left : List (Option PassView)) (receipts : List PassView) (h : List Entry)
    → length requests ≡ PLACES → map given submitters ≡ requests → AllFresh submitters → AllAsk submitters left → length left ≡ length submitters → map Some receipts ≡ left
    → All (λ r. IsPrefix r.front h) receipts → AddUp h receipts → All (λ e. e.session < PLACES) h → length h ≤ MAX_ENTRIES
    → (s : ℕ) → AreAsked (slice_index_or requests s []) (asked_by s h) (length h)
raced requests submitters left receipts h sixteen handed fresh asks as_many all_of begun sums sessions most s = by_case (cases_lt s PLACES)
  where
    by_case : (s < PLACES) ⊎ (PLACES ≤ s) → AreAsked (slice_index_or requests s []) (asked_by s h) (length h)
    by_case (inl less) = of_place s requests submitters left receipts h less sixteen handed fresh asks as_many all_of begun sums most
    by_case (inr more) = of_none s requests h more sixteen sessions

-- one submitter more
pub fresh_more : (submitters : List SubmitterView) (r : SubmitterView) → AllFresh submitters → IsFresh (length submitters) r → AllFresh (submitters ++ r ∷ [])
fresh_more submitters r all one s d less = by_case (cases_lt s (length submitters))
  where
    by_case : (s < length submitters) ⊎ (length submitters ≤ s) → IsFresh s (slice_index_or (submitters ++ r ∷ []) s d)
    by_case (inl lt) = subst (IsFresh s) (sym (get_or_append_left submitters (r ∷ []) d s lt)) (all s d lt)
    by_case (inr le) =
        let is : length submitters ≡ s = omega (arith, le, less, length-append submitters (r ∷ [])) in
        subst (IsFresh s) (sym (get_or_push submitters r d s is)) (subst (λ (k : ℕ). IsFresh k r) is one)

-- one more was handed what it is to submit
pub handed_more : (submitters : List SubmitterView) (r : SubmitterView) (own : List Request) (items rest all : List (List Request)) → r.requests ≡ own → items ≡ own ∷ rest
    → map given submitters ++ items ≡ all → map given (submitters ++ r ∷ []) ++ rest ≡ all
handed_more [] r own items rest all is next whole = ap (λ (x : List Request). x ∷ rest) is ∙ (sym next ∙ whole)
handed_more (q ∷ submitters) r own items rest all is next whole =
    ap (λ (x : List (List Request)). given q ∷ x) (handed_more submitters r own items rest (map given submitters ++ items) is next refl) ∙ whole
