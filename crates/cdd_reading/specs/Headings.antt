-- The lines before `begin`.
use Rattle.std.specs.Prelude.{◌≡◌, ℕ, ◌+◌, ◌==◌, ◌&&◌, ◌⊎◌, unwrap_or, List, [], ◌∷◌, ◌++◌, length, map, drop, Bool, true, false, if◌then◌else◌, Option, Some, None, option_to_list, codes, All}
use Rattle.std.specs.Str.{bytes_eq}
use Rattle.std.specs.List.{flat_map, list_all}
use Rattle.cdd_reading.specs.Tokens.{tokens}
use Rattle.plain_text.specs.Digits.{is_nat, number}
use Rattle.cdd_reading.specs.FirstWrong.{IsFirstWrong}
use Rattle.cdd_reading.specs.declared.head.Role.{Role}
use Rattle.cdd_reading.specs.declared.head.Role.TheVariants.{Begin, Kind, Linearity, Wrong, Passed}
use Rattle.cdd_reading.specs.declared.format.Format.{Format}
use Rattle.cdd_reading.specs.declared.format.Format.TheVariants.{Ine, Ext}

-- the kind that a line with these tokens names
abbrev pub kind_in : List (List ℕ) → List Format
kind_in [] = []
kind_in (t ∷ []) =
    if bytes_eq t (codes "H-representation") then Ine ∷ []
    else (if bytes_eq t (codes "V-representation") then Ext ∷ [] else [])
kind_in (t ∷ u ∷ more) = []

-- k, and then k indices
abbrev pub are_indices : List (List ℕ) → Bool
are_indices [] = false
are_indices (k ∷ is) = is_nat k && (list_all is_nat is && number k == length is)

-- the indices of a line with these tokens, if it begins with `linearity`; None where what stands
-- behind isn't k and k indices
abbrev pub linearity_in : List (List ℕ) → List (Option (List ℕ))
linearity_in [] = []
linearity_in (t ∷ ts) =
    if bytes_eq t (codes "linearity") then
    (if are_indices ts then Some (map number (drop 1 ts)) else None) ∷ []
    else []

abbrev pub is_begin : List (List ℕ) → Bool
is_begin [] = false
is_begin (t ∷ []) = bytes_eq t (codes "begin")
is_begin (t ∷ u ∷ more) = false

-- what the lines before `begin` say: the kind, and the indices of the equalities or lines
pub record Heading : Type 0 where
  pub kind : Option Format
  pub linearity : Option (List ℕ)

-- these lines can stand before `begin` and say this: none is `begin`, at most one names a kind, at
-- most one is a linearity line, and that one is right
pub record Says (before : List (List ℕ)) (h : Heading) : Type 0 where
  pub without_begin : All (λ line. is_begin (tokens line) ≡ false) before
  pub kind : flat_map (λ line. kind_in (tokens line)) before ≡ option_to_list h.kind
  pub linearity :
      flat_map (λ line. linearity_in (tokens line)) before ≡ map Some (option_to_list h.linearity)

abbrev pub CanHead : List (List ℕ) → Type 0
CanHead before = (h : Heading) × Says before h

-- the heading of a file, and the lines behind its `begin`
pub record IsHead (file : List (List ℕ)) (h : Heading) (before behind : List (List ℕ))
    : Type 0 where
  pub line : List ℕ
  pub cut : file ≡ before ++ line ∷ behind
  pub begins : is_begin (tokens line) ≡ true
  pub says : Says before h

-- the file has no heading, and the line with this number is the first that can't stand where it is;
-- that is the line behind all where `begin` is missing
pub record IsWrongLine (file : List (List ℕ)) (n : ℕ) : Type 0 where
  pub before : List (List ℕ)
  pub line : List ℕ
  pub first : IsFirstWrong CanHead file before line
  pub other : is_begin (tokens line) ≡ false
  pub number : n ≡ length before + 1

abbrev pub HasNoHead : List (List ℕ) → ℕ → Type 0
HasNoHead file n = IsWrongLine file n ⊎ CanHead file × (n ≡ length file + 1)

-- what a line before `begin` does
abbrev pub IsRole : List (List ℕ) → Role → Type 0
IsRole ts Begin = is_begin ts ≡ true
IsRole ts (Kind f) = (is_begin ts ≡ false) × (kind_in ts ≡ f ∷ []) × (linearity_in ts ≡ [])
IsRole ts Linearity =
    (is_begin ts ≡ false) × (kind_in ts ≡ []) × ((is : List ℕ) × (linearity_in ts ≡ Some is ∷ []))
IsRole ts Wrong = (is_begin ts ≡ false) × (kind_in ts ≡ []) × (linearity_in ts ≡ None ∷ [])
IsRole ts Passed = (is_begin ts ≡ false) × (kind_in ts ≡ []) × (linearity_in ts ≡ [])

-- these lines can stand before `begin`; the kind that they name, and their linearity line, or an
-- empty line
pub record Holds (before : List (List ℕ)) (named : Option Format) (linear : List ℕ) : Type 0 where
  pub without_begin : All (λ line. is_begin (tokens line) ≡ false) before
  pub kind : flat_map (λ line. kind_in (tokens line)) before ≡ option_to_list named
  pub linearity :
      flat_map (λ line. linearity_in (tokens line)) before ≡ linearity_in (tokens linear)
  pub right : (linear ≡ []) ⊎ ((is : List ℕ) × (linearity_in (tokens linear) ≡ Some is ∷ []))

-- the indices of a right linearity line, and none of an empty line
abbrev pub indices_of : List ℕ → List ℕ
indices_of linear = map number (drop 2 (tokens linear))

-- the heading that was read: the kind, the linearity line or an empty line, the lines behind
-- `begin`, and the number of the line `begin`
pub record IsHeadRead (file : List (List ℕ)) (named : Option Format) (linear : List ℕ)
    (behind : List (List ℕ)) (n : ℕ) : Type 0 where
  pub h : Heading
  pub before : List (List ℕ)
  pub head : IsHead file h before behind
  pub kind : named ≡ h.kind
  pub indices : indices_of linear ≡ unwrap_or h.linearity []
  pub number : n ≡ length before + 1
