-- What an accepted call says of its book, be it quoted or committed: the book is sound and has space, and the place is one of the
-- table. Assumes nothing.
use Prim.Native.Nat.{ℕ, ◌<◌}
use mathlib.Core.Path.{◌≡◌}
use borrow.Author.Tests.{lt-ltb, ltb-true}
use lib.Dec.{ltb}
use Rattle.base.specs.Numbers.{◌then◌}
use Rattle.base.proofs.Numbers.{unless-zero, then_zero, first_of}
use Rattle.road.specs.Table.{Table}
use Rattle.dayfile.specs.Day.{most_calls}
use Rattle.book.specs.declared.Book.{Book}
use Rattle.book.specs.Book.{book_refusal}
use Rattle.book.proofs.Sound.{Sound, book_sound, sound_book}
use Rattle.dispatch.specs.Commit.{asked_crane_refusal, commit_refusal}
use Rattle.dispatch.specs.Quote.{full_refusal, quote_refusal}

pub record Called (book : Book) (n : ℕ) (t : Table) (r : ℕ) : Type 0 where
  pub sound : Sound book n t
  pub on : r < n
  pub space : book.calls < most_calls

module _ {book : Book} {n : ℕ} {t : Table} {r : ℕ} where
  pub quote_called : quote_refusal book n t r ≡ 0 → Called book n t r
  quote_called h =
      let tested = then_zero (book_refusal book n t) _ h in
      let asked = first_of (ltb r n) 4 (full_refusal book.calls) tested.1 in
      record {
        sound = book_sound tested.0;
        on = ltb-true r n asked.0;
        space = ltb-true book.calls most_calls (unless-zero (ltb book.calls most_calls) 6 asked.1);
      }

  pub called_quote : Called book n t r → quote_refusal book n t r ≡ 0
  called_quote c = rw (sound_book c.sound, lt-ltb r n c.on, lt-ltb book.calls most_calls c.space)

  module _ {s : ℕ} where
    -- a commit that is accepted: so would a quote be, and the crane is one of the book's
    pub commit_called : commit_refusal book n t r s ≡ 0 → Called book n t r × (s < book.cranes)
    commit_called h =
        let tested = then_zero (book_refusal book n t) _ h in
        let asked = first_of (ltb r n) 4 (asked_crane_refusal book.cranes s then full_refusal book.calls) tested.1 in
        let sent = first_of (ltb s book.cranes) 11 (full_refusal book.calls) asked.1 in
        (quote_called (rw (tested.0, asked.0) sent.1), ltb-true s book.cranes sent.0)

    -- any crane may be sent to a call that may be quoted
    pub called_commit : Called book n t r → s < book.cranes → commit_refusal book n t r s ≡ 0
    called_commit c h =
        rw (sound_book c.sound, lt-ltb r n c.on, lt-ltb s book.cranes h, lt-ltb book.calls most_calls c.space)
