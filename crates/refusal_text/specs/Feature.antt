-- What a set of editions asks of a board (01, 'Editions'; 02, C-16): features that it must have, and features that it must not have.
use Rattle.std.specs.Prelude.{ℕ, Bool, true, false, not, cond, ◌&&◌, List, [], ◌∷◌, ◌++◌, eqb}
use Rattle.edition.specs.Feature.{ras, lpa2, hafdbs}
use Rattle.edition.specs.Mask.{mask_below}
use Rattle.text.specs.Ascii.{ascii}

pub data Feature : Type 0 where
  RAS : Feature
  LPA2 : Feature
  HAFDBS : Feature

abbrev pub in_edition : Feature → ℕ → Bool
in_edition RAS e = ras e
in_edition LPA2 e = lpa2 e
in_edition HAFDBS e = hafdbs e

pub data Asked : Type 0 where
  has : Feature → Asked
  lacks : Feature → Asked

-- an edition fits what is asked
abbrev pub meets : Asked → ℕ → Bool
meets (has f) e = in_edition f e
meets (lacks f) e = not (in_edition f e)

abbrev pub fits : List Asked → ℕ → Bool
fits [] e = true
fits (a ∷ rest) e = meets a e && fits rest e

-- how many editions a form has
abbrev pub editions_of : Bool → ℕ
editions_of short = cond short 2 16

-- what the editions that have a word can ask, where some have it and some don't: a word that every edition has asks nothing, and no word
-- asks for LPA, or to be without it. The short form's editions differ in RAS alone
abbrev pub sets_of : Bool → List (List Asked)
sets_of true = (lacks RAS ∷ []) ∷ (has RAS ∷ []) ∷ []
sets_of false = (has LPA2 ∷ []) ∷ (lacks RAS ∷ []) ∷ (has LPA2 ∷ lacks RAS ∷ []) ∷ (has HAFDBS ∷ []) ∷ (has RAS ∷ []) ∷ []

-- WHAT A MASK ASKS: the set whose editions, of n, are exactly the mask's
abbrev pub asked_in : List (List Asked) → ℕ → ℕ → List Asked
asked_in [] n mask = []
asked_in (s ∷ ss) n mask = cond (eqb mask (mask_below n (fits s))) s (asked_in ss n mask)

abbrev pub asked_by : Bool → ℕ → List Asked
asked_by short mask = asked_in (sets_of short) (editions_of short) mask

abbrev pub feature_text : Feature → List ℕ
feature_text RAS = ascii "RAS"
feature_text LPA2 = ascii "LPA2"
feature_text HAFDBS = ascii "HAFDBS"

abbrev pub asked_text : Asked → List ℕ
asked_text (has f) = ascii "needs " ++ feature_text f
asked_text (lacks f) = ascii "not with " ++ feature_text f

-- a line for each
abbrev pub asked_lines : List Asked → List ℕ
asked_lines [] = []
asked_lines (a ∷ rest) = asked_text a ++ ascii "\n" ++ asked_lines rest
