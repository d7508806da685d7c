-- The heading of a file, line by line.
use Rattle.std.proofs.Common.{◌≡◌, ◌≢◌, ℕ, ◌+◌, List, [], ◌∷◌, ◌++◌, length, refl, sym, ◌∙◌, ap, subst, arith, true, false, map, inl, inr, ◌⊎◌, length-append, drop, Bool, cond, codes}
use Rattle.std.specs.Prelude.{Some, None, Option, unwrap_or}
use Rattle.std.proofs.lemmas.List.{append-nil}
use Rattle.std.specs.Str.{bytes_eq}
use Rattle.std.specs.Str.Lines.{lines}
use Rattle.cdd_reading.specs.Tokens.{tokens}
use Rattle.plain_text.specs.Digits.{number}
use Rattle.cdd_reading.specs.Headings.{is_begin, linearity_in, are_indices, IsRole, Says, CanHead, Holds, Heading, IsHeadRead, HasNoHead, indices_of}
use Rattle.cdd_reading.specs.declared.head.Role.{Role}
use Rattle.cdd_reading.specs.declared.head.Role.TheVariants.{Begin, Kind, Linearity, Wrong, Passed}
use Rattle.cdd_reading.specs.declared.format.Format.{Format}

pub record Read (before : List (List ℕ)) (named : Option Format) (linear : List ℕ) : Type 0 where
  pub h : Heading
  pub says : Says before h
  pub kind : named ≡ h.kind
  pub indices : indices_of linear ≡ unwrap_or h.linearity []

-- the indices of a right linearity line
right_cases : (b c : Bool) (ks is : List ℕ) → cond b (cond c (Some ks) None ∷ []) [] ≡ Some is ∷ [] → ks ≡ is
right_cases true true ks is e = cc
right_cases true false ks is e = cc
right_cases false c ks is e = cc

right_indices : (ts : List (List ℕ)) (is : List ℕ) → linearity_in ts ≡ Some is ∷ [] → map number (drop 2 ts) ≡ is
right_indices [] is e = cc
right_indices (t ∷ ts) is e = right_cases (bytes_eq t (codes "linearity")) (are_indices ts) (map number (drop 1 ts)) is e

read_cases : (before : List (List ℕ)) (named : Option Format) (linear : List ℕ) → Holds before named linear → (linear ≡ []) ⊎ ((is : List ℕ) × (linearity_in (tokens linear) ≡ Some is ∷ [])) → Read before named linear
read_cases before named linear h (inl e) =
    let none : linearity_in (tokens linear) ≡ [] = ap (λ m. linearity_in (tokens m)) e in
    record {
      h = record { kind = named; linearity = None };
      says = record { without_begin = h.without_begin; kind = h.kind; linearity = h.linearity ∙ none };
      kind = refl;
      indices = ap (λ m. indices_of m) e;
    }
read_cases before named linear h (inr (is, e)) = record {
  h = record { kind = named; linearity = Some is };
  says = record { without_begin = h.without_begin; kind = h.kind; linearity = h.linearity ∙ e };
  kind = refl;
  indices = right_indices (tokens linear) is e;
}

pub reads : (before : List (List ℕ)) (named : Option Format) (linear : List ℕ) → Holds before named linear → Read before named linear
reads before named linear h = read_cases before named linear h h.right

pub at_begin : (file before rest behind : List (List ℕ)) (line linear : List ℕ) (named : Option Format) (n : ℕ) → file ≡ before ++ rest → rest ≡ line ∷ behind → n ≡ length before + 1 → Holds before named linear → is_begin (tokens line) ≡ true → IsHeadRead file named linear behind n
at_begin file before rest behind line linear named n e f g h b =
    let r : Read before named linear = reads before named linear h in
    record {
      h = r.h;
      before = before;
      head = record { line = line; cut = e ∙ ap (λ t. before ++ t) f; begins = b; says = r.says };
      kind = r.kind;
      indices = r.indices;
      number = g;
    }

pub at_wrong : (file before rest behind : List (List ℕ)) (line linear : List ℕ) (named : Option Format) (n : ℕ) → file ≡ before ++ rest → rest ≡ line ∷ behind → n ≡ length before + 1 → Holds before named linear → is_begin (tokens line) ≡ false → ¬ (CanHead (before ++ line ∷ [])) → HasNoHead file n
at_wrong file before rest behind line linear named n e f g h b wrong =
    let r : Read before named linear = reads before named linear h in
    inl (record {
      before = before;
      line = line;
      first = record { behind = behind; cut = e ∙ ap (λ t. before ++ t) f; right = (r.h, r.says); wrong = wrong };
      other = b;
      number = g;
    })

pub at_end : (file before : List (List ℕ)) (linear : List ℕ) (named : Option Format) (n : ℕ) → file ≡ before ++ [] → n ≡ length before + 1 → Holds before named linear → HasNoHead file n
at_end file before linear named n e g h =
    let r : Read before named linear = reads before named linear h in
    let same : file ≡ before = e ∙ append-nil before in
    inr (subst (λ (t : List (List ℕ)). CanHead t) (sym same) (r.h, r.says), g ∙ ap (λ (t : List (List ℕ)). length t + 1) (sym same))

pub not_begin : (ts : List (List ℕ)) (role : Role) → IsRole ts role → role ≢ Begin → is_begin ts ≡ false
not_begin ts Begin r n = absurd (n refl)
not_begin ts (Kind f) (b, k, l) n = b
not_begin ts Linearity (b, k, l) n = b
not_begin ts Wrong (b, k, l) n = b
not_begin ts Passed (b, k, l) n = b

pub is_begin-is : (ts : List (List ℕ)) (role : Role) → IsRole ts role → role ≡ Begin → is_begin ts ≡ true
is_begin-is ts role r e = subst (λ (x : Role). IsRole ts x) e r

pub push_length : (n : ℕ) (before : List (List ℕ)) (line : List ℕ) → n ≡ length before + 1 → n + 1 ≡ length (before ++ line ∷ []) + 1
push_length n before line e = let k = length-append before (line ∷ []) in omega arith

pub no_lines : (rest : List ℕ) → length rest ≡ 0 → lines rest ≡ []
no_lines [] e = refl
no_lines (b ∷ rest) e = absurd (omega arith)
