-- The relation of two states that are equal but for some modes' saved words and links and some fault registers: it is reflexive and
-- transitive, and an exception and a return keep it.
use mathlib.Core.Path.{◌≡◌, refl, sym, ap, ap₂, ◌∙◌, subst}
use mathlib.Core.Bool.{Bool, true, false}
use mathlib.Core.List.{List, [], ◌∷◌, ◌++◌}
use Prim.Native.Nat.{ℕ, ◌+◌, ◌%◌, ◌^◌, ◌≤◌, ◌<◌}
use lib.Dec.{eqb, ltb}
use lib.ListN.{length, get_or, set, length-set}
use lib.Seq.{get_or-set_same, get_or-set_other, set_out}
use borrow.Author.Tests.{eqb-true, eqb-false, ltb-true, ltb-false}
use Rattle.bits.specs.Among.{among}
use Rattle.bits.specs.Field.{field_of}
use Rattle.signed.specs.declared.Signed.{Signed}
use Rattle.signed.specs.Signed.{signed, sum_of, difference_of}
use Rattle.status.specs.declared.Marks.{Marks}
use Rattle.status.specs.declared.Mode.{Mode}
use Rattle.status.specs.Mode.{mode_number}
use Rattle.status.specs.Register.{link_register}
use Rattle.status.specs.Entry.{t32, entry_status}
use Rattle.status.specs.Sound.{sound}
use Rattle.exception.specs.declared.state.Saved.{Saved}
use Rattle.exception.specs.declared.state.FaultRegisters.{FaultRegisters}
use Rattle.exception.specs.declared.state.Guest.{Guest}
use Rattle.exception.specs.declared.entry.Row.{Row}
use Rattle.exception.specs.State.{register_in}
use Rattle.exception.specs.Vector.{vector_base}
use Rattle.exception.specs.Entry.{correction_in, link_from, saved_in, entered}
use Rattle.resume.specs.declared.Resumed.{Resumed}
use Rattle.resume.specs.Return.{mode_of, banked, saved_of, restored, back, returned}
use Rattle.resume.specs.Same.{EqualBut, saved_words, fault_words, link_place, saved_place, each, SameBut, OnlyMoved}
use Rattle.resume.proofs.Places.{among_first, among_second, not_at, link_differs, saved_differs, saved_at, saved_set}
use Rattle.resume.proofs.Answers.{Passes, returns_so}

-- ---- lists

pub equal_refl : (places a : List ℕ) → EqualBut places a a
equal_refl places a = record { sizes = refl; words = λ n e. refl }

pub equal_trans : (ps qs : List ℕ) {a b c : List ℕ} → EqualBut qs a b → EqualBut ps b c → EqualBut (ps ++ qs) a c
equal_trans ps qs e f =
    record { sizes = e.sizes ∙ f.sizes; words = λ n h. e.words n (among_second ps qs n h) ∙ f.words n (among_first ps qs n h) }

-- a list with one word set, but for that word
pub one_set : (l : List ℕ) (k v : ℕ) → EqualBut (k ∷ []) (set l k v) l
one_set l k v = record { sizes = length-set l k v; words = λ n e. get_or-set_other l k n v 0 (not_at n k e) }

-- the same word set in both
pub equal_set : (ps : List ℕ) {a b : List ℕ} (k v : ℕ) → EqualBut ps a b → EqualBut ps (set a k v) (set b k v)
equal_set ps {a} {b} k v e =
    record {
      sizes = length-set a k v ∙ e.sizes ∙ sym (length-set b k v);
      words = λ n h. by n h (eqb n k) refl (ltb k (length a)) refl;
    }
  where
    by : (n : ℕ) → among ps n ≡ false → (same : Bool) → eqb n k ≡ same → (inside : Bool) → ltb k (length a) ≡ inside
        → get_or (set a k v) n 0 ≡ get_or (set b k v) n 0
    by n h false q inside l =
        get_or-set_other a k n v 0 (eqb-false n k q) ∙ e.words n h ∙ sym (get_or-set_other b k n v 0 (eqb-false n k q))
    by n h true q true l =
        ap (λ (m : ℕ). get_or (set a k v) m 0) (eqb-true n k q)
        ∙ get_or-set_same a k v 0 (ltb-true k (length a) l)
        ∙ sym (get_or-set_same b k v 0 (subst (λ (m : ℕ). k < m) e.sizes (ltb-true k (length a) l)))
        ∙ ap (λ (m : ℕ). get_or (set b k v) m 0) (sym (eqb-true n k q))
    by n h true q false l =
        ap (λ (c : List ℕ). get_or c n 0) (set_out a k v (ltb-false k (length a) l))
        ∙ e.words n h
        ∙ ap (λ (c : List ℕ). get_or c n 0) (sym (set_out b k v (subst (λ (m : ℕ). m ≤ k) e.sizes (ltb-false k (length a) l))))

-- the same word saved in both
equal_saved : (ps : List ℕ) (m : Mode) {a b : Saved} {v w : ℕ} → EqualBut ps (saved_words a) (saved_words b) → v ≡ w
    → EqualBut ps (saved_words (saved_in m a v)) (saved_words (saved_in m b w))
equal_saved ps m {a} {b} {v} {w} e q =
    subst (λ (l : List ℕ). EqualBut ps l (saved_words (saved_in m b w))) (sym (saved_set m a v))
    (subst (EqualBut ps (set (saved_words a) (saved_place m) v)) (ap (set (saved_words b) (saved_place m)) q ∙ sym (saved_set m b w))
    (equal_set ps (saved_place m) v e))

-- the places of two lists of modes
each_append : (f : Mode → ℕ) (ms ns : List Mode) → each f (ms ++ ns) ≡ (each f ms ++ each f ns)
each_append f [] ns = refl
each_append f (m ∷ ms) ns = ap (λ (l : List ℕ). f m ∷ l) (each_append f ms ns)

-- ---- REFLEXIVE, and TRANSITIVE: what differs between three states is what differs between the first two and between the last two

pub same_refl : (modes : List Mode) (written : List ℕ) (s : Guest) → SameBut modes written s s
same_refl modes written s =
    record {
      regs = equal_refl (each link_place modes) s.regs;
      pc = refl;
      status = refl;
      saved = equal_refl (each saved_place modes) (saved_words s.saved);
      faults = equal_refl written (fault_words s.faults);
      sctlr = refl;
      vbar = refl;
      ttbcr = refl;
      marks = refl;
    }

pub same_trans : (ms ns : List Mode) (ws vs : List ℕ) {s t u : Guest} → SameBut ns vs s t → SameBut ms ws t u
    → SameBut (ms ++ ns) (ws ++ vs) s u
same_trans ms ns ws vs {s} {t} {u} e f =
    record {
      regs =
          subst (λ (l : List ℕ). EqualBut l s.regs u.regs) (sym (each_append link_place ms ns))
          (equal_trans (each link_place ms) (each link_place ns) e.regs f.regs);
      pc = e.pc ∙ f.pc;
      status = e.status ∙ f.status;
      saved =
          subst (λ (l : List ℕ). EqualBut l (saved_words s.saved) (saved_words u.saved)) (sym (each_append saved_place ms ns))
          (equal_trans (each saved_place ms) (each saved_place ns) e.saved f.saved);
      faults = equal_trans ws vs e.faults f.faults;
      sctlr = e.sctlr ∙ f.sctlr;
      vbar = e.vbar ∙ f.vbar;
      ttbcr = e.ttbcr ∙ f.ttbcr;
      marks = e.marks ∙ f.marks;
    }

pub moved_trans : {s t u : Guest} → OnlyMoved s t → OnlyMoved t u → OnlyMoved s u
moved_trans e f =
    record {
      regs = e.regs ∙ f.regs;
      saved = e.saved ∙ f.saved;
      faults = e.faults ∙ f.faults;
      sctlr = e.sctlr ∙ f.sctlr;
      vbar = e.vbar ∙ f.vbar;
      ttbcr = e.ttbcr ∙ f.ttbcr;
      marks = e.marks ∙ f.marks;
    }

module _ (modes : List Mode) (written : List ℕ) {s t : Guest} (same : SameBut modes written s t) where
  -- ---- AN EXCEPTION KEEPS IT: the same row entered in both

  link_same : (row : Row) → link_from s row ≡ link_from t row
  link_same row = ap₂ (λ (pc status : ℕ). sum_of pc (signed (correction_in row (t32 status)))) same.pc same.status

  status_same : (row : Row)
      → entry_status s.marks row.mode row.a row.f s.status s.sctlr
      ≡ entry_status t.marks row.mode row.a row.f t.status t.sctlr
  status_same row =
      ap₂ (λ (k : Marks) (old : ℕ). entry_status k row.mode row.a row.f old s.sctlr) same.marks same.status
      ∙ ap (entry_status t.marks row.mode row.a row.f t.status) same.sctlr

  pub enter_same : (row : Row) {f g : FaultRegisters} → EqualBut written (fault_words f) (fault_words g)
      → SameBut modes written (entered s row f) (entered t row g)
  unfolding entered
  enter_same row e =
      record {
        regs =
            subst (λ (v : ℕ). EqualBut (each link_place modes) (set s.regs row.link (link_from s row)) (set t.regs row.link v))
            (link_same row)
            (equal_set (each link_place modes) row.link (link_from s row) same.regs);
        pc = ap₂ (λ (c v : ℕ). (vector_base c v + row.vector) % 2 ^ 32) same.sctlr same.vbar;
        status = status_same row;
        saved = equal_saved (each saved_place modes) row.mode same.saved same.status;
        faults = e;
        sctlr = same.sctlr;
        vbar = same.vbar;
        ttbcr = same.ttbcr;
        marks = same.marks;
      }

  -- ---- A RETURN KEEPS IT, where the mode that is left is none of those modes

  module _ (m : Mode) (in_mode : mode_of t ≡ mode_number m) (other : among (each mode_number modes) (mode_number m) ≡ false) where
    mode_same : mode_of s ≡ mode_of t
    mode_same = ap (λ (w : ℕ). field_of w 4 0) same.status

    saved_same : saved_of (mode_of s) s.saved ≡ saved_of (mode_of t) t.saved
    saved_same =
        ap (λ (n : ℕ). saved_of n s.saved) (mode_same ∙ in_mode)
        ∙ saved_at m s.saved
        ∙ same.saved.words (saved_place m) (saved_differs modes m other)
        ∙ sym (saved_at m t.saved)
        ∙ ap (λ (n : ℕ). saved_of n t.saved) (sym in_mode)

    held_same : register_in s.regs (link_register (mode_of s)) ≡ register_in t.regs (link_register (mode_of t))
    held_same =
        ap (λ (n : ℕ). register_in s.regs (link_register n)) (mode_same ∙ in_mode)
        ∙ same.regs.words (link_place m) (link_differs modes m other)
        ∙ ap (λ (n : ℕ). register_in t.regs (link_register n)) (sym in_mode)

    pub passes_same : Passes t → Passes s
    passes_same p =
        record {
          status = ap₂ (λ (k : Marks) (w : ℕ). sound k w) same.marks same.status ∙ p.status;
          mode = ap banked mode_same ∙ p.mode;
          saved = ap₂ (λ (k : Marks) (w : ℕ). sound k w) same.marks saved_same ∙ p.saved;
        }

    back_same : (c : Signed) → SameBut modes written (back s c) (back t c)
    unfolding restored
    back_same c =
        record {
          regs = same.regs;
          pc = ap (λ (n : ℕ). difference_of n (signed c)) held_same;
          status = saved_same;
          saved = same.saved;
          faults = same.faults;
          sctlr = same.sctlr;
          vbar = same.vbar;
          ttbcr = same.ttbcr;
          marks = same.marks;
        }

    pub return_same : (c : Signed) → Passes t → SameBut modes written (returned s c).state (returned t c).state
    return_same c p =
        subst (λ (u : Guest). SameBut modes written u (returned t c).state)
        (sym (ap (λ (r : Resumed). r.state) (returns_so s c (passes_same p))))
        (subst (SameBut modes written (back s c)) (sym (ap (λ (r : Resumed). r.state) (returns_so t c p))) (back_same c))
