-- The entries of one session.
use Rattle.std.proofs.Common.{◌≡◌, ◌≢◌, ℕ, suc, ◌==◌, Bool, true, false, List, [], ◌∷◌, ◌++◌, map, refl, ap, ◌∙◌, arith}
use Rattle.std.proofs.lemmas.Bool.Decides.{nat_tests}
use Rattle.std.proofs.lemmas.List.{append-nil}
use Rattle.std.specs.List.{All}
use Rattle.edit_desk.specs.declared.entries.Entry.{Entry}
use Rattle.trace_types.specs.Operation.{Operation}
use Rattle.edit_desk.specs.declared.entries.Request.{Request}
use Rattle.edit_desk.specs.declared.replies.Reply.{Reply}
use Rattle.live_sessions.specs.Views.{PassView, Submitted, SawFull, entry}
use Rattle.live_sessions.specs.Races.{own_of, keep_if, asked, asked_by}

keep_if-append : (b : Bool) (e : Entry) (g h : List Entry) → keep_if b e (g ++ h) ≡ keep_if b e g ++ h
keep_if-append true e g h = refl
keep_if-append false e g h = refl

pub own_of-append : (s : ℕ) (g h : List Entry) → own_of s (g ++ h) ≡ own_of s g ++ own_of s h
own_of-append s [] h = refl
own_of-append s (e ∷ g) h = ap (keep_if (e.session == s) e) (own_of-append s g h) ∙ keep_if-append (e.session == s) e (own_of s g) (own_of s h)

pub own_of-others : (s : ℕ) (h : List Entry) → All (λ e. e.session ≢ s) h → own_of s h ≡ []
own_of-others s [] a = refl
own_of-others s (e ∷ h) a =
    let no : (e.session == s) ≡ false = other e.session s (a 0 e (omega arith)) in
    ap (λ (b : Bool). keep_if b e (own_of s h)) no ∙ own_of-others s h (λ k d l. a (suc k) d (omega arith))
  where
    other : (n m : ℕ) → n ≢ m → (n == m) ≡ false
    other n m ne = grind (arith, nat_tests)

pub own_of-one : (s : ℕ) (r : Request) (p : Reply) → own_of s (entry s r p ∷ []) ≡ entry s r p ∷ []
own_of-one s r p = ap (λ (b : Bool). keep_if b (entry s r p) []) (self s)
  where
    self : (n : ℕ) → (n == n) ≡ true
    self n = grind (arith, nat_tests)

map-append : (g h : List Entry) → map asked (g ++ h) ≡ map asked g ++ map asked h
map-append [] h = refl
map-append (e ∷ g) h = ap (λ (x : List Request). e.request ∷ x) (map-append g h)

asked_by-append : (s : ℕ) (g h : List Entry) → asked_by s (g ++ h) ≡ asked_by s g ++ asked_by s h
asked_by-append s g h = ap (map asked) (own_of-append s g h) ∙ map-append (own_of s g) (own_of s h)

pub asked_by-others : (s : ℕ) (g h : List Entry) → All (λ e. e.session ≢ s) h → asked_by s (g ++ h) ≡ asked_by s g
asked_by-others s g h a = asked_by-append s g h ∙ (ap (λ (x : List Entry). asked_by s g ++ map asked x) (own_of-others s h a) ∙ append-nil (asked_by s g))

-- one submit more
pub asked_more : (t : List Operation) (mid new : PassView) (r : Request) (reply : Reply) → Submitted t mid new r reply → asked_by mid.session new.front ≡ asked_by mid.session mid.front ++ r ∷ []
asked_more t mid new r reply sub =
    let s = mid.session in
    let e = entry s r reply in
    let front : new.front ≡ (mid.front ++ sub.between) ++ e ∷ [] = sub.front in
    ap (asked_by s) front ∙ (asked_by-append s (mid.front ++ sub.between) (e ∷ [])
    ∙ (ap (λ (x : List Request). x ++ asked_by s (e ∷ [])) (asked_by-others s mid.front sub.between sub.others) ∙ ap (λ (x : List Entry). asked_by s mid.front ++ map asked x) (own_of-one s r reply)))

-- none at a full history
pub asked_same : (t : List Operation) (mid new : PassView) → SawFull t mid new → asked_by mid.session new.front ≡ asked_by mid.session mid.front
asked_same t mid new saw = ap (asked_by mid.session) saw.front ∙ asked_by-others mid.session mid.front saw.between saw.others
