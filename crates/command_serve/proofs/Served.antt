-- What was read and written makes a served input.
use Rattle.std.proofs.Common.{◌≡◌, ◌≢◌, ℕ, ◌+◌, ◌<◌, ◌≤◌, List, [], Result, Ok, Err, IfOk, IsErr, ◌++◌, length, Bool, true, false, Option, Some, None, refl, ap, ◌∙◌, sym, arith, append-nil, length-append, lt-ltb, le-ltb, inl, inr}
use Rattle.std.specs.Bool.{if◌then◌else◌}
use Rattle.std.specs.Io.KnownBytes.{Appends, Consumes, IsAtEnd}
use Rattle.std.proofs.KnownBytes.{Appends-nil}
use Rattle.trace_types.specs.Devices.{IsInput}
use Rattle.trace_types.specs.declared.devices.Source as Source
use Rattle.trace_types.specs.declared.devices.Sink as Sink
use Rattle.trace_types.specs.declared.limits.TheConstants.{MAX_INPUT}
use Rattle.command_serve.specs.declared.due.Due.{Due}
use Rattle.command_serve.specs.Serve.{is_too_long, too_long, IsDueOrTooLong, IsWritten, IsRead, Serves}
use Rattle.command_serve.specs.declared.exits.Exit.{Exit}
use Rattle.command_serve.specs.declared.exits.Exit.TheVariants.{Fine, Trace, Usage, Device, Memory}

-- what a source has left, or nothing where that isn't told
abbrev pub told : Option (List ℕ) → List ℕ
told None = []
told (Some xs) = xs

IsInput-told : (left : Option (List ℕ)) → IsInput left (told left)
IsInput-told None = tt
IsInput-told (Some xs) = refl

pub IsInput-whole : (left left' : Option (List ℕ)) (bytes : List ℕ) → Consumes left left' bytes → IsAtEnd left' → IsInput left bytes
IsInput-whole None left' bytes h e = tt
IsInput-whole (Some xs) None bytes h e = absurd h
IsInput-whole (Some xs) (Some ys) bytes h e = sym (h ∙ ap (λ l. bytes ++ l) e ∙ append-nil bytes)

pub IsInput-long : (left left' : Option (List ℕ)) (bytes : List ℕ) → Consumes left left' bytes → MAX_INPUT < length bytes → (input : List ℕ) × IsInput left input × (MAX_INPUT < length input)
IsInput-long None left' bytes h l = (bytes, tt, l)
IsInput-long (Some xs) None bytes h l = absurd h
IsInput-long (Some xs) (Some ys) bytes h l = (xs, refl, omega (arith, simp length-append at (ap length h)))

pub read-short : (left left' : Option (List ℕ)) (input : List ℕ) → length input ≤ MAX_INPUT → IsAtEnd left' → IsRead left left' input
read-short left left' input l ended = (λ _. ended, λ long. let e : is_too_long input ≡ false = le-ltb _ _ l in absurd cc)

pub read-long : (left left' : Option (List ℕ)) (input bytes : List ℕ) → MAX_INPUT < length input → Consumes left left' bytes → length bytes ≡ MAX_INPUT + 1 → IsRead left left' input
read-long left left' input bytes l h n = ((λ short. absurd (omega (arith, l))), (λ _. (bytes, h, n)))

-- what is due for an input that is not too long
pub due-short : (IsDue : List ℕ → Due → Type 0) (input : List ℕ) (due : Due) → length input ≤ MAX_INPUT → IsDue input due → IsDueOrTooLong IsDue input due
due-short IsDue input due l is = (λ long. let e : is_too_long input ≡ false = le-ltb _ _ l in absurd cc, λ short. is)

-- what is due for one that is
pub due-long : (IsDue : List ℕ → Due → Type 0) (input : List ℕ) → MAX_INPUT < length input → IsDueOrTooLong IsDue input too_long
due-long IsDue input l = (λ long. refl, λ short. let e : is_too_long input ≡ true = lt-ltb _ _ l in absurd cc)

-- the exit of what was written is that of a text or that of a failed device
exit-usage : (b : Bool) → (if b then Trace else Fine) ≢ Usage
exit-usage true e = cc
exit-usage false e = cc

written-usage : (due : Due) (held held' : Option (List ℕ)) (exit : Exit) → IsWritten due held held' exit → exit ≢ Usage
written-usage due held held' exit (inl done) e = exit-usage due.is_fault (sym done.0 ∙ e)
written-usage due held held' exit (inr cut) e = cc (cut.0, e)

module _ {S K : Type 0} (IsDue : List ℕ → Due → Type 0) (source : Source.Ghosts S) (s s' : S) (sink : Sink.Ghosts K) (k : K) where
  -- an input that was read is served by its answer, also where there was no memory to make it
  pub served : {E : Type 0} (k' : K) (input : List ℕ) (made : Result Due E) (exit : Exit) → IsInput (source.left s) input → IsRead (source.left s) (source.left s') input
      → source.failed s' ≡ source.failed s → IfOk made (IsDueOrTooLong IsDue input) → IfOk made (λ due. IsWritten due (sink.held k) (sink.held k') exit)
      → (IsErr made → (exit ≡ Memory) × Appends (sink.held k) (sink.held k') []) → (exit ≡ Device → sink.failed k' ≡ true) → (exit ≢ Device → sink.failed k' ≡ sink.failed k)
      → Serves IsDue source s s' sink k k' exit
  served k' input (Ok due) exit is read flag may written none device other = record {
    input = input;
    whole = is;
    ends = inl (read, (due, may, written));
    device = λ e. inr (device e);
    flags = λ n. (flag, other n);
    usage = written-usage due _ _ exit written;
  }
  served k' input (Err e) exit is read flag may written none device other = record {
    input = input;
    whole = is;
    ends = inr (inl (none refl).0, (none refl).1);
    device = λ e. inr (device e);
    flags = λ n. (flag, other n);
    usage = λ e. cc ((none refl).0, e);
  }

  -- nothing was written where a read failed
  pub unread : source.failed s' ≡ true → Serves IsDue source s s' sink k k Device
  unread flag = record {
    input = told (source.left s);
    whole = IsInput-told (source.left s);
    ends = inr (inr refl, Appends-nil (sink.held k));
    device = λ _. inl (flag, Appends-nil (sink.held k));
    flags = λ n. absurd (n refl);
    usage = λ e. cc e;
  }

  -- nothing was written for want of memory
  pub unmade : source.failed s' ≡ source.failed s → Serves IsDue source s s' sink k k Memory
  unmade flag = record {
    input = told (source.left s);
    whole = IsInput-told (source.left s);
    ends = inr (inl refl, Appends-nil (sink.held k));
    device = λ e. cc e;
    flags = λ _. (flag, refl);
    usage = λ e. cc e;
  }
