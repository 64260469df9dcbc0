-- What is kept of an object's members, and one member more.
use Rattle.std.proofs.Common.{◌≡◌, ◌≢◌, ℕ, ◌<◌, List, [], ◌∷◌, length, get_or, Bool, true, false, Option, Some, None, option_map, refl, sym, ap, subst, ◌∙◌}
use Rattle.std.proofs.Math.ListN.{set}
use Rattle.std.proofs.lemmas.Bool.{false≢true}
use Rattle.std.proofs.lemmas.List.{get_or-set_same, get_or-set_other}
use Rattle.std.proofs.lemmas.Slice.Eq.{bytes_eq-Decides}
use Rattle.std.specs.Bool.{Decides, if◌then◌else◌}
use Rattle.std.specs.Prelude.{codes}
use Rattle.std.specs.Str.{bytes_eq}
use Rattle.serde_json.specs.Data.{Data, null, boolean, number, string, array, object, Members, put}
use Rattle.serde_json.specs.Find.{get_member}
use Rattle.serde_json.proofs.Views.{get_member-put, get_member-put_other}
use Rattle.trace_reader.specs.declared.names.NumberName.{NumberName}
use Rattle.trace_reader.specs.declared.names.NumberName.TheVariants as names
use Rattle.trace_reader.specs.declared.names.MemberName.{MemberName}
use Rattle.trace_reader.specs.declared.names.MemberName.TheVariants as member
use Rattle.trace_reader.specs.declared.member_slots.KeptNumber.{KeptNumber}
use Rattle.trace_reader.specs.declared.member_slots.KeptNumber.TheVariants as kept_number
use Rattle.trace_reader.specs.declared.member_slots.MemberSlots.{MemberSlots}
use Rattle.trace_reader.specs.Looks.{look_of, listed, is_array, text_of, number_text, name_text, place, number_of_look, number_kept, op_told, elements_told, kept_at, Tells}

-- ---- names are told apart

-- the name that is written so
abbrev named : List ℕ → Option MemberName
named text = if bytes_eq text (codes "id") then Some (member.Number names.Id) else (if bytes_eq text (codes "t") then Some (member.Number names.Thread) else (if bytes_eq text (codes "op") then Some member.Op else (if bytes_eq text (codes "to") then Some (member.Number names.To) else (if bytes_eq text (codes "from") then Some (member.Number names.From) else (if bytes_eq text (codes "h") then Some (member.Number names.Handle) else (if bytes_eq text (codes "i") then Some (member.Number names.Index) else (if bytes_eq text (codes "c") then Some (member.Number names.Cell) else (if bytes_eq text (codes "a") then Some (member.Number names.First) else (if bytes_eq text (codes "b") then Some (member.Number names.Second) else (if bytes_eq text (codes "fields") then Some member.Fields else (if bytes_eq text (codes "expected") then Some (member.Number names.Expected) else (if bytes_eq text (codes "desired") then Some (member.Number names.Desired) else (None)))))))))))))

is_named : (name : MemberName) → named (name_text name) ≡ Some name
is_named (member.Number names.Id) = refl
is_named (member.Number names.Thread) = refl
is_named member.Op = refl
is_named (member.Number names.To) = refl
is_named (member.Number names.From) = refl
is_named (member.Number names.Handle) = refl
is_named (member.Number names.Index) = refl
is_named (member.Number names.Cell) = refl
is_named (member.Number names.First) = refl
is_named (member.Number names.Second) = refl
is_named member.Fields = refl
is_named (member.Number names.Expected) = refl
is_named (member.Number names.Desired) = refl

same_name : (m n : MemberName) → name_text m ≡ name_text n → m ≡ n
same_name m n e = let s : Some m ≡ Some n = sym (is_named m) ∙ ap named e ∙ is_named n in cc

-- the number of that place
abbrev placed : ℕ → NumberName
placed k = get_or (names.Id ∷ names.Thread ∷ names.To ∷ names.From ∷ names.Handle ∷ names.Index ∷ names.Cell ∷ names.First ∷ names.Second ∷ names.Expected ∷ names.Desired ∷ []) k names.Id

is_placed : (name : NumberName) → placed (place name) ≡ name
is_placed names.Id = refl
is_placed names.Thread = refl
is_placed names.To = refl
is_placed names.From = refl
is_placed names.Handle = refl
is_placed names.Index = refl
is_placed names.Cell = refl
is_placed names.First = refl
is_placed names.Second = refl
is_placed names.Expected = refl
is_placed names.Desired = refl

same_place : (m n : NumberName) → place m ≡ place n → m ≡ n
same_place m n e = sym (is_placed m) ∙ ap placed e ∙ is_placed n

-- ---- one member more

module _ (d : Data) (ms : Members) where
  other_name : (m n : MemberName) → (m ≡ n → ⊥) → get_member (name_text m) ms ≡ get_member (name_text m) (put (name_text n) d ms)
  other_name m n differ = sym (get_member-put_other (name_text m) (name_text n) d ms (λ e. differ (same_name m n e)))

  at_name : (b : Bool) (xs : List KeptNumber) (k : KeptNumber) (m n : NumberName) → Decides b (number_text m ≡ number_text n) → place n < length xs → k ≡ number_of_look (look_of d)
      → get_or xs (place m) kept_number.Missing ≡ number_kept (option_map look_of (get_member (number_text m) ms))
      → get_or (set xs (place n) k) (place m) kept_number.Missing ≡ number_kept (option_map look_of (get_member (number_text m) (put (number_text n) d ms)))
  at_name true xs k m n same inside seen before =
      let e : member.Number m ≡ member.Number n = same_name (member.Number m) (member.Number n) (same.0 refl) in
      let m_is : m ≡ n = cc in
      subst (λ x. get_or (set xs (place n) k) (place x) kept_number.Missing ≡ number_kept (option_map look_of (get_member (number_text x) (put (number_text n) d ms)))) (sym m_is)
      (get_or-set_same xs (place n) k kept_number.Missing inside ∙ seen ∙ ap (λ o. number_kept (option_map look_of o)) (sym (get_member-put (number_text n) d ms)))
  at_name false xs k m n other inside seen before =
      get_or-set_other xs (place n) (place m) k kept_number.Missing (λ e. absurd (false≢true (other.1 (ap number_text (same_place m n e)))))
      ∙ before ∙ ap (λ o. number_kept (option_map look_of o)) (sym (get_member-put_other (number_text m) (number_text n) d ms (λ e. absurd (false≢true (other.1 e)))))

  pub Tells-number : (old new : MemberSlots) (name : NumberName) (k : KeptNumber) → Tells old ms → place name < length old.numbers → k ≡ number_of_look (look_of d)
      → new ≡ record old { numbers = set old.numbers (place name) k } → Tells new (put (number_text name) d ms)
  Tells-number old new name k tells inside seen is =
      subst (λ kept. Tells kept (put (number_text name) d ms)) (sym is) (record {
        numbers = λ m. at_name (bytes_eq (number_text m) (number_text name)) old.numbers k m name (bytes_eq-Decides (number_text m) (number_text name)) inside seen (tells.numbers m);
        op = tells.op ∙ ap (option_map (λ x. text_of (look_of x))) (other_name member.Op (member.Number name) (λ e. absurd (cc)));
        fields = tells.fields ∙ ap (option_map listed) (other_name member.Fields (member.Number name) (λ e. absurd (cc)));
      })

  numbers_stay : (kept : MemberSlots) (name : MemberName) → ((m : NumberName) → member.Number m ≡ name → ⊥) → Tells kept ms
      → (m : NumberName) → kept_at kept m ≡ number_kept (option_map look_of (get_member (number_text m) (put (name_text name) d ms)))
  numbers_stay kept name differ tells m = tells.numbers m ∙ ap (λ o. number_kept (option_map look_of o)) (other_name (member.Number m) name (differ m))

  pub Tells-op : (old new : MemberSlots) → Tells old ms → op_told new.op ≡ Some (text_of (look_of d)) → new ≡ record old { op = new.op } → Tells new (put (codes "op") d ms)
  Tells-op old new tells seen is =
      subst (λ kept. Tells kept (put (codes "op") d ms)) (sym is) (record {
        numbers = numbers_stay old member.Op (λ m e. absurd (cc)) tells;
        op = seen ∙ ap (option_map (λ x. text_of (look_of x))) (sym (get_member-put (codes "op") d ms));
        fields = tells.fields ∙ ap (option_map listed) (other_name member.Fields member.Op (λ e. absurd (cc)));
      })

  pub Tells-fields : (old new : MemberSlots) → Tells old ms → elements_told new.fields ≡ Some (listed d) → new ≡ record old { fields = new.fields } → Tells new (put (codes "fields") d ms)
  Tells-fields old new tells seen is =
      subst (λ kept. Tells kept (put (codes "fields") d ms)) (sym is) (record {
        numbers = numbers_stay old member.Fields (λ m e. absurd (cc)) tells;
        op = tells.op ∙ ap (option_map (λ x. text_of (look_of x))) (other_name member.Op member.Fields (λ e. absurd (cc)));
        fields = seen ∙ ap (option_map listed) (sym (get_member-put (codes "fields") d ms));
      })

  -- of a name that no operation asks for nothing is kept
  pub Tells-other : (kept : MemberSlots) (key : List ℕ) → ((name : MemberName) → key ≢ name_text name) → Tells kept ms → Tells kept (put key d ms)
  Tells-other kept key other tells =
      let stays = λ (name : MemberName). sym (get_member-put_other (name_text name) key d ms (λ e. other name (sym e))) in record {
        numbers = λ m. tells.numbers m ∙ ap (λ o. number_kept (option_map look_of o)) (stays (member.Number m));
        op = tells.op ∙ ap (option_map (λ x. text_of (look_of x))) (stays member.Op);
        fields = tells.fields ∙ ap (option_map listed) (stays member.Fields);
      }

-- what is no array has no elements
pub no_elements : (d : Data) → is_array d ≡ false → listed d ≡ None
no_elements null e = refl
no_elements (boolean b) e = refl
no_elements (number n) e = refl
no_elements (string s) e = refl
no_elements (array ds) e = absurd (cc)
no_elements (object ms) e = refl
