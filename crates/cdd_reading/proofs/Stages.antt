-- Tests one behind the other.
use Rattle.std.proofs.Common.{List, [], ◌∷◌, ◌++◌, inl, inr}
use Rattle.reply_text.specs.declared.faults.Fault.{Fault}
use Rattle.cdd_reading.specs.Refusals.{Test, IsFirstOf, NoneOf}

pub first_longer : (ts us : List Test) (f : Fault) → IsFirstOf ts f → IsFirstOf (ts ++ us) f
first_longer [] us f h = absurd h
first_longer (t ∷ ts) us f (inl h) = inl h
first_longer (t ∷ ts) us f (inr (none, h)) = inr (none, first_longer ts us f h)

pub first_behind : (ts us : List Test) (f : Fault) → NoneOf ts → IsFirstOf us f → IsFirstOf (ts ++ us) f
first_behind [] us f none h = h
first_behind (t ∷ ts) us f (here, none) h = inr (here, first_behind ts us f none h)

pub none_both : (ts us : List Test) → NoneOf ts → NoneOf us → NoneOf (ts ++ us)
none_both [] us none more = more
none_both (t ∷ ts) us (here, none) more = (here, none_both ts us none more)
