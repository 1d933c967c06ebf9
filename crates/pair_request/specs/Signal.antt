-- What the signalling of a request's call may tell the clerk's end: the call died, or the request was rejected.
pub data Signal : Type 0 where
  call_died rejected : Signal
