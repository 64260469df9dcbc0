-- The lines of the sessions, one session taken out after another.
use Rattle.std.proofs.Common.{◌≡◌, ◌≢◌, ◌⊎◌, inl, inr, ℕ, ◌+◌, ◌==◌, ◌<◌, ◌≤◌, Bool, true, false, List, [], ◌∷◌, ◌++◌, length, refl, ap, sym, ◌∙◌, arith}
use Rattle.std.specs.Prelude.{slice_index_or}
use Rattle.std.proofs.lemmas.Bool.Decides.{nat_tests}
use Rattle.std.proofs.lemmas.Bool.{cases_lt}
use Rattle.std.proofs.lemmas.List.{get_or_append_left, get_or_push, get_or_past}
use Rattle.trace_reader.specs.declared.request.RequestLine.{RequestLine}
use Rattle.edit_desk.specs.declared.entries.Request.{Request}
use Rattle.command_race.specs.Race.{requests_of, others_of, ask_if, keep_unless}

no_other : (n k s : ℕ) → (n == k) ≡ true → s ≢ k → (n == s) ≡ false
no_other n k s is apart = grind (arith, nat_tests)

-- the lines of the other sessions have all that another session asks
pub requests_of-others : (s k : ℕ) (lines : List RequestLine) → s ≢ k → requests_of s (others_of k lines) ≡ requests_of s lines
requests_of-others s k [] apart = refl
requests_of-others s k (line ∷ lines) apart = by_case (line.session == k) refl (requests_of-others s k lines apart)
  where
    by_case : (b : Bool) → (line.session == k) ≡ b → requests_of s (others_of k lines) ≡ requests_of s lines
        → requests_of s (keep_unless b line (others_of k lines)) ≡ ask_if (line.session == s) line (requests_of s lines)
    by_case true is same =
        let other : (line.session == s) ≡ false = no_other line.session k s is apart in
        same ∙ sym (ap (λ (b : Bool). ask_if b line (requests_of s lines)) other)
    by_case false is same = ap (ask_if (line.session == s) line) same

-- the requests of one session more
pub split_more : (n : ℕ) (sessions : List (List Request)) (own : List Request) (rest lines : List RequestLine) → length sessions ≡ n
    → ((s : ℕ) → s < n → slice_index_or sessions s [] ≡ requests_of s lines) → ((s : ℕ) → n ≤ s → requests_of s rest ≡ requests_of s lines) → own ≡ requests_of n rest
    → (s : ℕ) → s < n + 1 → slice_index_or (sessions ++ own ∷ []) s [] ≡ requests_of s lines
split_more n sessions own rest lines many each left is s less = by_case (cases_lt s n)
  where
    by_case : (s < n) ⊎ (n ≤ s) → slice_index_or (sessions ++ own ∷ []) s [] ≡ requests_of s lines
    by_case (inl lt) = get_or_append_left sessions (own ∷ []) [] s (omega (arith, lt, many)) ∙ each s lt
    by_case (inr le) =
        let at : n ≡ s = omega (arith, le, less) in
        get_or_push sessions own [] s (many ∙ at) ∙ (is ∙ (left n (omega arith) ∙ ap (λ (k : ℕ). requests_of k lines) at))

-- what is left for the sessions after it
pub rest_more : (n : ℕ) (rest others lines : List RequestLine) → ((s : ℕ) → n ≤ s → requests_of s rest ≡ requests_of s lines) → others ≡ others_of n rest
    → (s : ℕ) → n + 1 ≤ s → requests_of s others ≡ requests_of s lines
rest_more n rest others lines left is s le =
    ap (requests_of s) is ∙ (requests_of-others s n rest (λ e. absurd (omega (arith, le, e))) ∙ left s (omega (arith, le)))

no_lines : (lines : List RequestLine) → length lines ≡ 0 → lines ≡ []
no_lines [] none = refl
no_lines (line ∷ lines) none = absurd (omega arith)

-- all sessions, where no line is left
pub split_all : (n : ℕ) (sessions : List (List Request)) (rest lines : List RequestLine) → length sessions ≡ n
    → ((s : ℕ) → s < n → slice_index_or sessions s [] ≡ requests_of s lines) → ((s : ℕ) → n ≤ s → requests_of s rest ≡ requests_of s lines) → length rest ≡ 0
    → (s : ℕ) → slice_index_or sessions s [] ≡ requests_of s lines
split_all n sessions rest lines many each left none s = by_case (cases_lt s n)
  where
    by_case : (s < n) ⊎ (n ≤ s) → slice_index_or sessions s [] ≡ requests_of s lines
    by_case (inl lt) = each s lt
    by_case (inr le) = get_or_past sessions s [] (omega (arith, many, le)) ∙ (sym (ap (requests_of s) (no_lines rest none)) ∙ left s le)
